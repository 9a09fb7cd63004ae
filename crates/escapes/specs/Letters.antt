-- A byte as it is written, by the letter of its escape.
use Rattle.std.specs.Prelude.{ℕ, ◌≡◌, Bool, List, [], ◌∷◌, Option, None, Some}
use Rattle.escapes.specs.Escapes.{shown}

-- a byte as it is shown by the letter of its escape, if it has one
abbrev pub by_letter : Option ℕ → ℕ → List ℕ
by_letter None c = c ∷ []
by_letter (Some l) c = 92 ∷ l ∷ []

pub record Letter (first : Bool) (c : ℕ) (r : Option ℕ) : Type 0 where
  pub is : by_letter r c ≡ shown first c
