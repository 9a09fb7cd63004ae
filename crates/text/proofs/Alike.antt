-- What the loop of `equal` keeps, a turn of it and its ends.
use mathlib.Core.Path.{◌≡◌, ap, ap₂, sym, ◌∙◌}
use Prim.Native.Nat.{ℕ, suc, ◌+◌, ◌≤◌, ◌<◌}
use native.Mathlib.Numerals.{add-one}
use native.Mathlib.Omega.{arith}
use mathlib.Core.Bool.{Bool, true, false, ◌&&◌}
use mathlib.Core.List.{List}
use borrow.Author.Tests.{eq-eqb, ne_eqb}
use lib.Dec.{eqb}
use lib.ListN.{length, drop, get_or, drop_of_length-le}
use lib.Seq.{drop-cons}
use Rattle.text.specs.Words.{same}

pub record SameSoFar (a b : List ℕ) (i : ℕ) : Type 0 where
  pub within : i ≤ length a
  pub lengths : length a ≡ length b
  pub rest : same (drop i a) (drop i b) ≡ same a b

module _ {a b : List ℕ} {i : ℕ} (h : SameSoFar a b i) where
  alike_step : i < length a → same (drop i a) (drop i b) ≡ (eqb (get_or a i 0) (get_or b i 0) && same (drop (suc i) a) (drop (suc i) b))
  alike_step l =
      let k : i < length b = omega (arith, h.lengths) in
      rw (drop-cons a i 0 l, drop-cons b i 0 k)

  pub alike_turn : i < length a → get_or a i 0 ≡ get_or b i 0 → SameSoFar a b (i + 1)
  alike_turn l e =
      record {
        within = omega arith;
        lengths = h.lengths;
        rest = rw add-one (sym (alike_step l ∙ ap (λ (t : Bool). t && same (drop (suc i) a) (drop (suc i) b)) (eq-eqb _ _ e)) ∙ h.rest);
      }

  pub alike_stop : i < length a → (get_or a i 0 ≡ get_or b i 0 → ⊥) → false ≡ same a b
  alike_stop l e = sym (alike_step l ∙ ap (λ (t : Bool). t && same (drop (suc i) a) (drop (suc i) b)) (ne_eqb _ _ e)) ∙ h.rest

  pub alike_end : length a ≤ i → true ≡ same a b
  alike_end l =
      let k : length b ≤ i = omega (arith, h.lengths) in
      sym (ap₂ same (drop_of_length-le a l) (drop_of_length-le b k)) ∙ h.rest
