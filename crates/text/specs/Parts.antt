-- Parts of a byte string: runs of a class, lines, the pieces between separators, and a text with zeros behind it.
use Rattle.std.specs.Prelude.{ℕ, suc, ◌-◌, ◌≤◌, Bool, true, false, cond, ◌&&◌, List, [], ◌∷◌, ◌++◌, eqb, length, take, drop, replicate}
use Rattle.text.specs.Bytes.{is_blank}
use Rattle.text.specs.declared.Place.{Place}

-- how many bytes at the front pass the test, the run that they make, and what comes after it
abbrev pub lead : (ℕ → Bool) → List ℕ → ℕ
lead p [] = 0
lead p (x ∷ xs) = cond (p x) (suc (lead p xs)) 0

abbrev pub front : (ℕ → Bool) → List ℕ → List ℕ
front p s = take (lead p s) s

abbrev pub after : (ℕ → Bool) → List ℕ → List ℕ
after p s = drop (lead p s) s

-- every byte passes the test
abbrev pub all : (ℕ → Bool) → List ℕ → Bool
all p [] = true
all p (x ∷ xs) = p x && all p xs

abbrev pub empty : List ℕ → Bool
empty [] = true
empty (x ∷ xs) = false

-- the part from index a up to index e
abbrev pub part : ℕ → ℕ → List ℕ → List ℕ
part a e s = take (e - a) (drop a s)

abbrev pub part_at : List ℕ → Place → List ℕ
part_at s p = part p.start p.end s

-- a place lies in a slice of n bytes
pub record Inside (n : ℕ) (p : Place) : Type 0 where
  pub low : p.start ≤ p.end
  pub high : p.end ≤ n

-- "trailing whitespace dropped"
abbrev pub trimmed : List ℕ → List ℕ
trimmed [] = []
trimmed (x ∷ xs) = cond (is_blank x && all is_blank xs) [] (x ∷ trimmed xs)

-- a byte in front of the first of several texts
abbrev pub onto : ℕ → List (List ℕ) → List (List ℕ)
onto x [] = (x ∷ []) ∷ []
onto x (l ∷ ls) = (x ∷ l) ∷ ls

-- "A line ends at byte 10 or at the end of the file; nothing after the last byte 10 is no line."
abbrev pub lines : List ℕ → List (List ℕ)
lines [] = []
lines (x ∷ xs) = cond (eqb x 10) ([] ∷ lines xs) (onto x (lines xs))

-- the pieces of a text between the bytes d: one more than there are bytes d
abbrev pub pieces : ℕ → List ℕ → List (List ℕ)
pieces d [] = [] ∷ []
pieces d (x ∷ s) = cond (eqb x d) ([] ∷ pieces d s) (onto x (pieces d s))

-- t and zeros behind it, up to n bytes: "Places not in use are zero"
abbrev pub padded : ℕ → List ℕ → List ℕ
padded n t = t ++ replicate (n - length t) 0
