-- The four groups, row by row.
use native.Mathlib.Omega.{arith}
use Rattle.rules.specs.declared.Group.TheVariants as G
use Rattle.values.proofs.KeptValues.{row_of}
use Rattle.settings.proofs.iwd.iwd_rows.Goals as goal

pub general_settings-requires : goal.general_settings-requires
general_settings-requires c = row_of c.requires (omega arith) G.Settings c.requires.rows.general

pub security_settings-requires : goal.security_settings-requires
security_settings-requires c = row_of c.requires (omega arith) G.Security c.requires.rows.security

pub ipv4_settings-requires : goal.ipv4_settings-requires
ipv4_settings-requires c = row_of c.requires (omega arith) G.Ipv4 c.requires.rows.ipv4

pub ipv6_settings-requires : goal.ipv6_settings-requires
ipv6_settings-requires c = row_of c.requires (omega arith) G.Ipv6 c.requires.rows.ipv6
