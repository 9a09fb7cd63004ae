-- The run of a key's bytes by their columns, which take just those (`chosen_key`).
use mathlib.Core.Path.{ap, ◌∙◌}
use Prim.Native.Nat.{ℕ}
use Rattle.text.specs.ByteTable.{chosen}
use Rattle.text.specs.ByteTableLaws.{chosen_key}
use Rattle.text.proofs.ScanLaws.{stop_as}
use Rattle.text.proofs.scan.key_end.Goals as goal

pub returns : goal.returns
returns c = stop_as (λ x. ap (λ (m : ℕ). chosen m x) c.key_columns.ensures ∙ chosen_key _ x) c.masked_end.ensures
