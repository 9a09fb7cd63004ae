-- What each step of keeping does: where it cuts the input, and what it leaves in a buffer, of a file and of the whole.
use Rattle.std.specs.Prelude.{ℕ, ◌-◌, ◌≤◌, ◌≡◌, Bool, true, false, not, ◌||◌, List, [], length, take}
use Rattle.text.specs.Bytes.{in_line}
use Rattle.text.specs.Parts.{all, part}
use Rattle.put.specs.Put.{Wrote}
use Rattle.intake.specs.declared.NamedFile.{NamedFile}
use Rattle.intake.specs.declared.Input.{Input}
use Rattle.intake.specs.declared.Cut.{Cut}
use Rattle.intake.specs.Forms.{form_from}
use Rattle.intake.specs.Input.{first_line, behind_line}

-- a buffer held o with its front up to a, and holds x with its front up to r: behind the old front stands as much of s
-- as there is room for, and behind the new one the old bytes
pub record Appended (s : List ℕ) (a : ℕ) (o x : List ℕ) (r : ℕ) : Type 0 where
  pub wrote : Wrote (take (length o - a) s) a o x r

-- what of the next part s of the input belongs to a line that has ended or not, and what to what is behind the line
abbrev pub line_part : Bool → List ℕ → List ℕ
line_part true s = []
line_part false s = first_line s

abbrev pub rest_part : Bool → List ℕ → List ℕ
rest_part true s = s
rest_part false s = behind_line s

-- whether the line has ended with s behind
abbrev pub ended_by : Bool → List ℕ → Bool
ended_by e s = e || not (all in_line s)

-- a part s of the input is cut where its first line, which had ended or not, ends
pub record Cuts (s : List ℕ) (ended : Bool) (r : Cut) : Type 0 where
  pub low : r.end ≤ length s
  pub high : r.from ≤ length s
  pub line : part 0 r.end s ≡ line_part ended s
  pub rest : part r.from (length s) s ≡ rest_part ended s
  pub over : r.ended ≡ ended_by ended s

-- s is taken behind a name line and a file: the buffers held n and f, and hold x and y
pub record TakesFile (s : List ℕ) (k : NamedFile) (n f x y : List ℕ) (r : NamedFile) : Type 0 where
  pub named : Appended (line_part k.ended s) k.name n x r.name
  pub formed : r.form ≡ form_from k.form (line_part k.ended s)
  pub filed : Appended (rest_part k.ended s) k.file f y r.file
  pub over : r.ended ≡ ended_by k.ended s

-- s is taken as the next part of the input: the buffers held m, n and f, and hold w, x and y
pub record TakesInput (s : List ℕ) (k : Input) (m n f w x y : List ℕ) (r : Input) : Type 0 where
  pub numbered : Appended (line_part k.ended s) k.number m w r.number
  pub rest : TakesFile (rest_part k.ended s) k.rest n f x y r.rest
  pub over : r.ended ≡ ended_by k.ended s
