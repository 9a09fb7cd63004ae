-- What the writer and the move answer, laid out for C, is what the definitions say of it.
use Prim.Native.Nat.{ℕ}
use mathlib.Core.Path.{◌≡◌, ap, ◌∙◌}
use mathlib.Core.List.{List}
use Rattle.writer.specs.Writing.{Writing, Writes}
use Rattle.writer.specs.declared.Written.{Written}
use Rattle.boundary.specs.Answers.{written_at, left_of, Leaves}
use Rattle.boundary.specs.declared.CWritten.{CWritten}

pub writes_at : {w : Writing} {n f x y : List ℕ} {b : Written} → Writes w n f x y b → {a : CWritten} → a ≡ written_at b → Leaves (left_of w n f) x y a
writes_at h e = record { answer = e ∙ ap written_at h.answer; name = h.name; file = h.file }
