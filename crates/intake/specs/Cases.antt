-- Worked cases: a number line, and the number that it counts as.
use Rattle.std.specs.Prelude.{◌≡◌, refl, List, [], ◌∷◌, ◌++◌, map, ℕ}
use Rattle.text.specs.Words.{word}
use Rattle.addresses.specs.Addresses.{decimal_value}
use Rattle.intake.specs.Number.{service_number}

abbrev number_lines : List (List ℕ × ℕ)
number_lines =
    -- 1 to 3 decimal digits, leading zeros too
    (word "1", 1)
    ∷ (word "001", 1)
    ∷ (word "42", 42)
    ∷ (word "999", 999)
    -- anything else
    ∷ ([], 0)
    ∷ (word "0001", 0)
    ∷ (word "1000", 0)
    ∷ (word " 1", 0)
    ∷ (word "+1", 0)
    ∷ (word "1x", 0)
    ∷ (word "1" ++ 13 ∷ [], 0)
    ∷ []

pub number_lines_lem : map (λ (c : List ℕ × ℕ). service_number c.0) number_lines ≡ map (λ (c : List ℕ × ℕ). c.1) number_lines
unfolding decimal_value
number_lines_lem = refl
