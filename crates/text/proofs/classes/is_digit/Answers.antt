-- A digit by its bit in the table of bytes.
use mathlib.Core.Path.{◌∙◌}
use Rattle.text.specs.ByteTableLaws.{chosen_digit}
use Rattle.text.proofs.classes.is_digit.Goals as goal

pub returns : goal.returns
returns c = c.is_in.ensures ∙ chosen_digit _
