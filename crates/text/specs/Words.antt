-- Words, and a word's place in a table of words.
use Rattle.std.specs.Prelude.{ℕ, zero, suc, Bool, true, false, cond, ◌&&◌, List, [], ◌∷◌, eqb, Option, None, Some}
use Prim.Native.String.{String}
use Prim.Native.String as S
use Prim.Native.Char.{code}

-- the bytes of a quoted text
abbrev pub word : String → List ℕ
word S.[] = []
word (S.◌∷◌ c s) = code c ∷ word s

-- whether two byte strings are the same
abbrev pub same : List ℕ → List ℕ → Bool
same [] [] = true
same [] (y ∷ ys) = false
same (x ∷ xs) [] = false
same (x ∷ xs) (y ∷ ys) = eqb x y && same xs ys

-- the place of a word in a table, counted from 1, or 0 where it is not there
abbrev pub further : ℕ → ℕ
further zero = 0
further (suc n) = suc (suc n)

abbrev pub place : List ℕ → List (List ℕ) → ℕ
place w [] = 0
place w (x ∷ xs) = cond (same w x) 1 (further (place w xs))

-- what a word stands for in a table of words and what they stand for
abbrev pub named : {A : Type 0} → List ℕ → List (List ℕ × A) → Option A
named w [] = None
named w (x ∷ xs) = cond (same w x.0) (Some x.1) (named w xs)
