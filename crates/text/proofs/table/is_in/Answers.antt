-- A byte is in a mask by its entry.
use mathlib.Core.Path.{ap}
use Prim.Native.Nat.{ℕ}
use Rattle.text.specs.ByteTable.{meets, chosen}
use Rattle.text.proofs.table.is_in.Goals as goal

pub returns : goal.returns
unfolding chosen
returns c = ap (λ (e : ℕ). meets c.args.mask e) c.entry.ensures
