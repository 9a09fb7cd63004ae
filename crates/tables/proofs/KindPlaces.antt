-- A place that is not in a table stands for nothing there.
use Prim.Native.Nat.{ℕ, zero, suc, ◌≤◌, ◌<◌}
use native.Mathlib.Omega.{arith}
use lib.ListN.{length}
use mathlib.Core.Path.{◌≡◌, refl}
use mathlib.Core.List.{List, [], ◌∷◌}
use Rattle.std.specs.Prelude.{None}
use Rattle.tables.specs.KeyPlaces.{at_place}

at_place_out : {A : Type 0} (n : ℕ) (t : List (List ℕ × A)) → (1 ≤ n → length t < n) → at_place n t ≡ None
at_place_out n [] h = refl
at_place_out zero (x ∷ t) h = refl
at_place_out (suc zero) (x ∷ t) h = absurd (omega (arith, h (omega arith)))
at_place_out (suc (suc n)) (x ∷ t) h = at_place_out (suc n) t (λ k. omega (arith, h (omega arith)))

-- what a match on the places 1 to k leaves
abbrev pub NoneTo : ℕ → ℕ → Type 0
NoneTo n zero = Unit
NoneTo n (suc k) = NoneTo n k × (n ≡ suc k → ⊥)

past : (n k : ℕ) → NoneTo n k → 1 ≤ n → k < n
past n zero r h = h
past n (suc k) r h = let m : (n ≡ suc k → ⊥) = r.1 in omega (arith, past n k r.0 h)

pub at_place_none : {A : Type 0} (n : ℕ) (t : List (List ℕ × A)) → NoneTo n (length t) → at_place n t ≡ None
at_place_none n t r = at_place_out n t (past n (length t) r)
