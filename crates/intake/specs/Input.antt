-- What is kept of the input: "a line with the service number first .., then .. a first line with the file name, then the file".
use Rattle.std.specs.Prelude.{ℕ, ◌≤◌, ◌≡◌, Bool, true, false, cond, List, [], ◌∷◌, ◌++◌, length, take, drop}
use Rattle.text.specs.Bytes.{in_line}
use Rattle.text.specs.Parts.{all, front, after}
use Rattle.intake.specs.declared.Form.TheVariants.{Empty}
use Rattle.intake.specs.declared.NamedFile.{NamedFile}
use Rattle.intake.specs.declared.Input.{Input}
use Rattle.intake.specs.Forms.{form_from}

-- the first line of an input, and what is behind its byte 10; without byte 10 the input is all first line
abbrev pub first_line : List ℕ → List ℕ
first_line i = front in_line i

abbrev pub behind_line : List ℕ → List ℕ
behind_line i = drop 1 (after in_line i)

-- the first n bytes of a buffer are as much of t as it has room for
pub record Front (buffer : List ℕ) (n : ℕ) (t : List ℕ) : Type 0 where
  pub count : n ≡ length (take (length buffer) t)
  pub text : take n buffer ≡ take (length buffer) t

-- input i is a first line, which has ended or not, and the rest behind its byte 10
pub record Parted (i : List ℕ) (ended : Bool) (line rest : List ℕ) : Type 0 where
  pub is : i ≡ cond ended (line ++ 10 ∷ rest) line
  pub within : all in_line line ≡ true
  pub none : ended ≡ false → rest ≡ []

-- of i, a name line and a file, the buffers keep the fronts, and k tells how much, and the line's form
pub record KeepsFile (i name file : List ℕ) (k : NamedFile) : Type 0 where
  pub line : List ℕ
  pub rest : List ℕ
  pub parted : Parted i k.ended line rest
  pub named : Front name k.name line
  pub formed : k.form ≡ form_from Empty line
  pub filed : Front file k.file rest

-- of input i, a number line and what stands behind it, the buffers keep the fronts, and k tells how much; an input without a
-- number line counts as one whose number line has ended, and is empty
pub record KeepsInput (i number name file : List ℕ) (k : Input) : Type 0 where
  pub line : List ℕ
  pub rest : List ℕ
  pub parted : Parted i k.ended line rest
  pub numbered : Front number k.number line
  pub kept : KeepsFile rest name file k.rest

-- some input is kept
pub record SomeInput (number name file : List ℕ) (k : Input) : Type 0 where
  pub input : List ℕ
  pub keeps : KeepsInput input number name file k

-- what is kept lies in the buffers
pub record InBuffers (number name file : List ℕ) (k : Input) : Type 0 where
  pub in_number : k.number ≤ length number
  pub in_name : k.rest.name ≤ length name
  pub in_file : k.rest.file ≤ length file
