-- What the program answers to its input.
use Rattle.std.specs.Prelude.{ℕ, ◌≤◌, ◌≡◌, List, length}
use Rattle.rules.specs.Numbers.{answer_number}
use Rattle.writer.specs.Writing.{Writing}
use Rattle.writer.specs.declared.Written.{Written}
use Rattle.mover.specs.Moves.{moving}
use Rattle.intake.specs.Input.{first_line, behind_line}
use Rattle.intake.specs.Number.{service_number}

-- "a line with the service number first .., then the same": a line with the file name and the file; n and f are the buffers
-- of the new name and the new file
abbrev pub moved_input : List ℕ → List ℕ → List ℕ → Writing
moved_input i n f = moving (first_line (behind_line i)) (behind_line (behind_line i)) (service_number (first_line i)) n f

-- what the program can say: the new bytes of the answer a lie in the buffers x and y, and it is not 17, since there was room
pub record Sayable (x y : List ℕ) (a : Written) : Type 0 where
  pub name : a.name_len ≤ length x
  pub file : a.file_len ≤ length y
  pub room : answer_number a.answer ≡ 17 → ⊥
