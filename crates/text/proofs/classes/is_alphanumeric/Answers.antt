-- A letter or a digit by its bits in the table of bytes.
use mathlib.Core.Path.{◌∙◌}
use native.Mathlib.Omega.{arith}
use Rattle.text.specs.declared.Class.TheVariants.{Alphanumeric}
use Rattle.text.specs.ByteTableLaws.{chosen_member}
use Rattle.text.proofs.classes.is_alphanumeric.Goals as goal

pub returns : goal.returns
returns c = c.is_in.ensures ∙ chosen_member Alphanumeric (λ e. omega (arith, e)) _
