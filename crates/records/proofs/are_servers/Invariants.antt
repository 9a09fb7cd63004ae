use Rattle.std.proofs.Common.{◌≡◌, drop}
use Rattle.records.specs.Formed.{zero_rows}
use Rattle.records.proofs.are_servers.Given as goal

abbrev pub invariant-loop-server : goal.invariant-loop-server
invariant-loop-server l = zero_rows (drop l.server-index l.server-items) ≡ zero_rows (drop l.n l.servers)
