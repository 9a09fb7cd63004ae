-- What the reader of a number keeps, and each of its returns.
use Rattle.std.proofs.Common.{◌≡◌, ℕ, suc, ◌+◌, ◌-◌, ◌*◌, ◌<◌, ◌≤◌, Bool, true, false, cond, eqb, List, [], ◌∷◌, length, get_or, drop, sym, refl, ◌∙◌, add-one, arith, drop_of_length-le, drop-cons, ne_eqb, le-leb}
use Rattle.std.specs.Prelude.{None, Some}
use borrow.Author.Tests.{lt-leb}
use Rattle.text.specs.Bytes.{is_digit}
use Rattle.text.specs.Options.{only}
use Rattle.text.specs.Laws.{inside, under, over}
use Rattle.addresses.specs.Addresses.{decimal_value, up_to, number}

-- ---- a number

module _ (m : ℕ) where
  number_view : (s : List ℕ) → 0 < length s → number m s ≡ cond (eqb (get_or s 0 0) 48) (only (eqb (length s) 1) (Some 0)) (up_to m (decimal_value 0 s))
  unfolding number
  number_view [] h = absurd (omega arith)
  number_view (c ∷ []) h = refl
  number_view (c ∷ d ∷ s) h = rw (ne_eqb (length (c ∷ d ∷ s)) 1 (λ (e : length (c ∷ d ∷ s) ≡ 1). omega arith))

  pub value_big : (s : List ℕ) (v : ℕ) → m < v → up_to m (decimal_value v s) ≡ None
  unfolding decimal_value
  value_big [] v h = rw (lt-leb v m h)
  value_big (c ∷ s) v h = go (is_digit c) (value_big s (v * 10 + (c - 48)) (omega arith))
    where
      go : (t : Bool) → up_to m (decimal_value (v * 10 + (c - 48)) s) ≡ None → up_to m (cond t (decimal_value (v * 10 + (c - 48)) s) None) ≡ None
      go true e = e
      go false e = refl

  pub number_empty : (s : List ℕ) → length s ≡ 0 → None ≡ number m s
  unfolding number
  number_empty [] h = refl
  number_empty (c ∷ s) h = absurd (omega arith)

  module _ (s : List ℕ) (h : length s ≡ 0 → ⊥) (e : get_or s 0 0 ≡ 48) where
    pub number_zero : length s ≡ 1 → Some 0 ≡ number m s
    number_zero l = rw (number_view s (omega (arith, h)), e, l)

    pub number_led : (length s ≡ 1 → ⊥) → None ≡ number m s
    number_led l = rw (number_view s (omega (arith, h)), e, ne_eqb (length s) 1 l)

-- the digits before index i write v, and the rest is still to be read
pub record Valuing (m : ℕ) (s : List ℕ) (i v : ℕ) : Type 0 where
  pub within : i ≤ length s
  pub small : v ≤ m
  pub rest : up_to m (decimal_value v (drop i s)) ≡ number m s

pub valuing_first : (m : ℕ) (s : List ℕ) → (length s ≡ 0 → ⊥) → (get_or s 0 0 ≡ 48 → ⊥) → Valuing m s 0 0
valuing_first m s h e = record { within = omega arith; small = omega arith; rest = sym (number_view m s (omega (arith, h)) ∙ rw (ne_eqb (get_or s 0 0) 48 e)) }

module _ {m : ℕ} {s : List ℕ} {i v : ℕ} (h : Valuing m s i v) where
  pub valuing_end : length s ≤ i → Some v ≡ number m s
  unfolding decimal_value
  valuing_end l = rw (drop_of_length-le s l, le-leb v m h.small) at h.rest

  module _ (l : i < length s) where
    pub valuing_low : get_or s i 0 < 48 → None ≡ number m s
    unfolding decimal_value
    valuing_low k = rw (drop-cons s i 0 l, under 48 57 k) at h.rest

    pub valuing_high : 57 < get_or s i 0 → None ≡ number m s
    unfolding decimal_value
    valuing_high k = rw (drop-cons s i 0 l, over 48 57 k) at h.rest

    module _ (k : 48 ≤ get_or s i 0) (j : get_or s i 0 ≤ 57) where
      on : up_to m (decimal_value (v * 10 + (get_or s i 0 - 48)) (drop (suc i) s)) ≡ number m s
      unfolding decimal_value
      on = rw (drop-cons s i 0 l, inside 48 57 k j) at h.rest

      pub valuing_big : m < v * 10 + (get_or s i 0 - 48) → None ≡ number m s
      valuing_big b = sym (value_big m (drop (suc i) s) _ b) ∙ on

      pub valuing_turn : v * 10 + (get_or s i 0 - 48) ≤ m → Valuing m s (i + 1) (v * 10 + (get_or s i 0 - 48))
      valuing_turn b = record { within = omega arith; small = b; rest = rw (add-one i) on }
