-- The number of a service, digit by digit: what each turn of the loop gives.
use mathlib.Core.Path.{◌≡◌, refl, ap, sym, ◌∙◌}
use mathlib.Core.Bool.{Bool, true, false, not}
use mathlib.Core.List.{List, [], ◌∷◌}
use Prim.Native.Nat.{ℕ, ◌+◌, ◌-◌, ◌*◌, ◌≤◌, ◌<◌}
use native.Mathlib.Omega.{arith}
use borrow.Author.Tests.{le-leb, not-true, not-false}
use lib.ListN.{length, drop, get_or, drop_of_length-le}
use Rattle.text.specs.Bytes.{is_digit}
use Rattle.text.specs.Laws.{view_more, between_low, between_high}
use Rattle.addresses.specs.Addresses.{decimal_value}
use Rattle.intake.specs.Number.{or_zero, service_number}

-- from i on the digits that are left go behind v, and v is still small
pub record NumberSoFar (s : List ℕ) (i v : ℕ) : Type 0 where
  pub within : i ≤ length s
  pub short : length s ≤ 3
  pub rest : or_zero (decimal_value v (drop i s)) ≡ service_number s
  pub none_yet : i < 1 → v ≤ 0
  pub one_digit : i < 2 → v ≤ 9
  pub two_digits : i < 3 → v ≤ 99

pub so_far_first : (s : List ℕ) → length s ≤ 3 → NumberSoFar s 0 0
unfolding decimal_value
so_far_first s h = record {
  within = omega arith;
  short = h;
  rest = go s h;
  none_yet = λ l. omega arith;
  one_digit = λ l. omega arith;
  two_digits = λ l. omega arith;
}
  where
    go : (s : List ℕ) → length s ≤ 3 → or_zero (decimal_value 0 s) ≡ service_number s
    go [] h = refl
    go (x ∷ s) h = rw (le-leb (length (x ∷ s)) 3 h, le-leb 1 (length (x ∷ s)) (omega arith))

-- the number so far and the digit c behind it have room in a word
pub record Small (v c : ℕ) : Type 0 where
  pub value : v ≤ 99
  pub low : 48 ≤ c
  pub high : c ≤ 57

module _ (s : List ℕ) {i v : ℕ} (p : NumberSoFar s i v) where
  pub so_far_end : length s ≤ i → v ≡ service_number s
  unfolding decimal_value
  so_far_end l = sym (ap (λ (t : List ℕ). or_zero (decimal_value v t)) (drop_of_length-le s {i = i} l)) ∙ p.rest

  module _ (l : i < length s) {b : Bool} (e : b ≡ is_digit (get_or s i 0)) where
    pub so_far_other : not b ≡ true → 0 ≡ service_number s
    unfolding decimal_value
    so_far_other h = (rw (view_more s i l, sym e ∙ not-true b h) at p.rest)

    so_far_digit : not b ≡ false → is_digit (get_or s i 0) ≡ true
    so_far_digit h = sym e ∙ not-false b h

    pub so_far_small : not b ≡ false → Small v (get_or s i 0)
    so_far_small h = record {
      value = p.two_digits (omega (arith, p.short));
      low = between_low {x = get_or s i 0} 48 57 (so_far_digit h);
      high = between_high {x = get_or s i 0} 48 57 (so_far_digit h);
    }

    pub so_far_turn : not b ≡ false → NumberSoFar s (i + 1) (v * 10 + (get_or s i 0 - 48))
    unfolding decimal_value
    so_far_turn h =
        let most : get_or s i 0 ≤ 57 = (so_far_small h).high in
        record {
          within = omega arith;
          short = p.short;
          rest = rw (view_more s i l, so_far_digit h) at p.rest;
          none_yet = λ k. omega arith;
          one_digit = λ k. omega (arith, p.none_yet (omega arith));
          two_digits = λ k. omega (arith, p.one_digit (omega arith));
        }
