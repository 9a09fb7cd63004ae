-- What the code keeps between two bytes: the ranges that a `Due` stands for.
use Rattle.std.specs.Prelude.{ℕ, zero, suc, ◌≡◌, List, [], ◌∷◌, replicate, Option, None, Some}
use Rattle.utf8.specs.Utf8.{Range, ◌to◌, utf8_from}
use Rattle.utf8.specs.declared.Due.{Due}

abbrev pub pending : ℕ → ℕ → ℕ → List Range
pending zero l h = []
pending (suc n) l h = l to h ∷ replicate n (128 to 191)

abbrev pub ranges : Due → List Range
ranges d = pending d.more d.low d.high

-- what is due after a byte that continues what was due, and a range that holds nothing after one that does not
abbrev pub due_after : Option Due → List Range
due_after None = 1 to 0 ∷ []
due_after (Some d) = ranges d

-- a step over the byte b: whatever follows, what was due before b is due after it
pub record StepsOver (d : Due) (b : ℕ) (r : Option Due) : Type 0 where
  pub rest : (s : List ℕ) → utf8_from (ranges d) (b ∷ s) ≡ utf8_from (due_after r) s
