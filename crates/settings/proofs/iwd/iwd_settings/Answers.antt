-- The file is accepted, or refused.
use Rattle.settings.proofs.IwdFile.{found_kept, dns_in, iwd_good, servers_good, iwd_refused, servers_refused}
use mathlib.Core.Path.{◌≡◌}
use borrow.Author.Rules.{rules}
use Rattle.settings.specs.Absent.{zero_iwd_settings}
use Rattle.settings.proofs.iwd.iwd_settings.Goals as goal

pub servers_at-requires : goal.servers_at-requires
servers_at-requires c = dns_in c.read-reading.ensures c.in-Ok.is

pub iwd_rows-requires : goal.iwd_rows-requires
iwd_rows-requires c = found_kept c.read-reading.ensures c.in-Ok.is

pub returns-in-Ok : goal.returns-in-Ok
returns-in-Ok c = record { value = iwd_good c.read-reading.ensures c.in-Ok.is c.iwd_rows.ensures; servers_after = servers_good c.read-reading.ensures c.in-Ok.is c.args.servers.now c.servers_at.ensures }

pub returns-in-Err : goal.returns-in-Err
returns-in-Err c = record { value = iwd_refused c.read-reading.ensures c.in-Err.is (let z : c.default.result ≡ zero_iwd_settings = search rules in z); servers_after = servers_refused c.read-reading.ensures c.in-Err.is c.args.servers.now }
