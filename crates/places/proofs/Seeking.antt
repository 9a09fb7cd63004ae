-- A name among those of the services: what the loop keeps, a turn, and its ends.
use Prim.Native.Nat.{ℕ, suc, ◌+◌, ◌-◌, ◌≤◌, ◌<◌}
use native.Mathlib.Omega.{arith}
use mathlib.Core.Path.{◌≡◌, ap, sym, ◌∙◌}
use mathlib.Core.Bool.{Bool, true, false, ◌||◌}
use mathlib.Core.List.{List}
use Rattle.text.specs.Parts.{part}
use Rattle.text.specs.Words.{same}
use Rattle.places.specs.Store.{slot}
use Rattle.places.specs.Holds.{among}
use Rattle.places.specs.History.{name_base}

pub record SeekingName (file x : List ℕ) (n i : ℕ) (w : List ℕ) : Type 0 where
  pub rest : among file x i w ≡ among file x n w

module _ {file x : List ℕ} {n i : ℕ} {w : List ℕ} (h : SeekingName file x n i w) where
  pub seeking_end : i ≤ 0 → false ≡ among file x n w
  seeking_end l = let z : i ≡ 0 = omega arith in sym (ap (λ (m : ℕ). among file x m w) z) ∙ h.rest

  module _ (l : 0 < i) {b : Bool} (q : b ≡ same w (part (slot (name_base + (i - 1)) x).start (slot (name_base + (i - 1)) x).end file)) where
    step : among file x n w ≡ (b || among file x (i - 1) w)
    step = let z : i ≡ suc (i - 1) = omega arith in sym h.rest ∙ ap (λ (m : ℕ). among file x m w) z ∙ ap (λ (t : Bool). t || among file x (i - 1) w) (sym q)

    pub seeking_found : b ≡ true → true ≡ among file x n w
    seeking_found e = sym (step ∙ rw e)

    pub seeking_turn : b ≡ false → SeekingName file x n (i - 1) w
    seeking_turn e = record { rest = sym (step ∙ rw e) }
