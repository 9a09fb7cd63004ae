-- What the pass over a file answers, and what the table of places then says.
use Rattle.std.specs.Prelude.{ℕ, ◌≤◌, ◌≡◌, List, [], reverse, replicate, None, Some, Result, Ok, Err}
use Rattle.text.specs.Parts.{lines}
use Rattle.text.specs.declared.Dialect.{Dialect}
use Rattle.rules.specs.Sections.{Section}
use Rattle.rules.specs.Reading.{line_fault, grown, sections_of, name_in, reading_of, reading}
use Rattle.rules.specs.declared.Fault.{Fault}
use Rattle.rules.specs.declared.Refusal.{Refusal}
use Rattle.places.specs.Holds.{TableKeeps, HoldsGroups}
use Rattle.places.specs.declared.State.{State}
use Rattle.verdicts.specs.Ending.{kind_of_name}
use Rattle.verdicts.specs.declared.FileKind.{FileKind}
use Rattle.places.specs.Store.{table_length}
use Rattle.rules.specs.Answering.{Reading, accepted_with, refused_at}

-- no line is faulty, and the state and the table hold of the groups of the whole file; or the first faulty line
abbrev pub WalkIs : Dialect → List ℕ → List ℕ → Result State Fault → Type 0
WalkIs d file y (Ok st) =
    (line_fault d 1 0 [] (lines file) ≡ None) × HoldsGroups d file st y (grown d 1 0 [] (lines file))
WalkIs d file y (Err f) = line_fault d 1 0 [] (lines file) ≡ Some f

pub record Walks (d : Dialect) (file : List ℕ) (y : List ℕ) (r : Result State Fault) : Type 0 where
  pub is : WalkIs d file y r

-- where the settings of an accepted file stand
pub record Found (d : Dialect) (file : List ℕ) (y : List ℕ) : Type 0 where
  pub groups : List Section
  pub all : reverse groups ≡ sections_of d file
  pub kept : TableKeeps d file y groups

-- of a file whose size is allowed and whose name says the kind k
pub record ReadsKind (k : FileKind) (d : Dialect) (file : List ℕ) (y : List ℕ) (r : Reading) : Type 0 where
  pub is : (name : List ℕ) → kind_of_name (name_in d name) ≡ Some k → r ≡ reading_of d (name_in d name) file
  pub found : {n m : ℕ} → r ≡ accepted_with n m → Found d file y
  pub few : {n m : ℕ} → r ≡ accepted_with n m → m ≤ 8

-- of any file; the table was empty before, and "Every answer but 0 leaves all lent buffers unchanged"
pub record ReadsFile (d : Dialect) (name file : List ℕ) (y : List ℕ) (r : Reading) : Type 0 where
  pub is : r ≡ reading d name file
  pub found : {n m : ℕ} → r ≡ accepted_with n m → Found d file y
  pub few : {n m : ℕ} → r ≡ accepted_with n m → m ≤ 8
  pub left : {f : Refusal} {l : ℕ} → r ≡ refused_at f l → y ≡ replicate table_length 0
