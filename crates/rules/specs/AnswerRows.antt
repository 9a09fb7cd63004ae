-- Document 01's table as rows, and which of its rows the reading of a file gives.
use Rattle.std.specs.Prelude.{ℕ, Bool, false, ◌&&◌, ◌||◌, List, [], ◌∷◌, eqb}
use Rattle.text.specs.Bytes.{between}
use Rattle.text.specs.declared.Dialect.{Dialect}
use Rattle.text.specs.declared.Dialect.TheVariants.{Iwd, ConnMan}

-- a row: a number, and its line, which is 0 or that of a line of the file; of a string that is found the line is its
-- setting's, and of "an absent one .. line 0"
pub data AnswerRow : Type 0 where
  bare : ℕ → AnswerRow
  lined : ℕ → AnswerRow
  placed : ℕ → AnswerRow

-- whether the number n and the line l, of a file of k lines, are those of a row
abbrev pub is_row : ℕ → ℕ → ℕ → AnswerRow → Bool
is_row k n l (bare m) = eqb n m && eqb l 0
is_row k n l (lined m) = eqb n m && between 1 k l
is_row k n l (placed m) = eqb n m && between 0 k l

abbrev pub has_row : ℕ → List AnswerRow → ℕ → ℕ → Bool
has_row k [] n l = false
has_row k (r ∷ rs) n l = is_row k n l r || has_row k rs n l

-- 4 is iwd's, 13 ConnMan's; of 14 and 15 "service header; iwd 0"
abbrev pub dialect_rows : Dialect → List AnswerRow
dialect_rows Iwd = lined 4 ∷ bare 14 ∷ bare 15 ∷ []
dialect_rows ConnMan = lined 13 ∷ lined 14 ∷ lined 15 ∷ []

-- "the file's own refusals"
abbrev pub own_rows : Dialect → List AnswerRow
own_rows d =
    bare 1
    ∷ bare 2
    ∷ lined 3
    ∷ lined 5
    ∷ lined 6
    ∷ lined 7
    ∷ lined 8
    ∷ lined 9
    ∷ lined 10
    ∷ lined 11
    ∷ lined 12
    ∷ dialect_rows d
