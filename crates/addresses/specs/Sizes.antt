-- How long the written texts are.
use Rattle.std.specs.Prelude.{◌≡◌, ℕ, ◌+◌, ◌-◌, ◌*◌, ◌/◌, ◌%◌, ◌<◌, ◌≤◌, Bool, true, false, List, [], ◌∷◌, length, nat_lt, slice_index, refl}
use native.Mathlib.Omega.{arith}
use borrow.Author.Tests.{lt-ltb, le-ltb, ltb-true, ltb-false}
use Rattle.std.proofs.Common.{length-append}
use Rattle.addresses.specs.declared.Separator.{Separator}
use Rattle.addresses.specs.Addresses.{decimal_digit, decimal, dotted, with_separators, listed}

-- a number has one digit, two or three
module _ (n : ℕ) where
  pub decimal_one : n < 10 → decimal n ≡ decimal_digit n ∷ []
  unfolding decimal
  decimal_one h = rw (lt-ltb n 10 h)

  pub decimal_two : 10 ≤ n → n < 100 → decimal n ≡ decimal_digit (n / 10) ∷ decimal_digit (n % 10) ∷ []
  unfolding decimal
  decimal_two h g = rw (le-ltb n 10 h, lt-ltb n 100 g)

  pub decimal_three : 100 ≤ n →
      decimal n ≡ decimal_digit (n / 100) ∷ decimal_digit (n / 10 % 10) ∷ decimal_digit (n % 10) ∷ []
  unfolding decimal
  decimal_three h = let k : 10 ≤ n = omega arith in rw (le-ltb n 10 k, le-ltb n 100 h)

  pub decimal_length_one : n < 10 → length (decimal n) ≡ 1
  decimal_length_one h = rw (decimal_one h)

  pub decimal_length_two : 10 ≤ n → n < 100 → length (decimal n) ≡ 2
  decimal_length_two h g = rw (decimal_two h g)

  pub decimal_length_three : 100 ≤ n → length (decimal n) ≡ 3
  decimal_length_three h = rw (decimal_three h)

  pub decimal_short : length (decimal n) ≤ 3
  decimal_short = go (nat_lt n 10) refl (nat_lt n 100) refl
    where
      go : (x : Bool) → nat_lt n 10 ≡ x → (y : Bool) → nat_lt n 100 ≡ y → length (decimal n) ≤ 3
      go true e y f = omega (arith, decimal_length_one (ltb-true n 10 e))
      go false e true f = omega (arith, decimal_length_two (ltb-false n 10 e) (ltb-true n 100 f))
      go false e false f = omega (arith, decimal_length_three (ltb-false n 100 f))

-- an address has its numbers and three dots, 15 bytes at most
pub dotted_length : (a : List ℕ) →
    length (dotted a) ≡ length (decimal (slice_index a 0)) + (1 + length (decimal (slice_index a 1))) + (1 + length (decimal (slice_index a 2))) + (1 + length (decimal (slice_index a 3)))
unfolding dotted
dotted_length a = simp length-append (omega arith)

pub dotted_short : (a : List ℕ) → length (dotted a) ≤ 15
dotted_short a = omega (arith, dotted_length a, decimal_short (slice_index a 0), decimal_short (slice_index a 1), decimal_short (slice_index a 2), decimal_short (slice_index a 3))

-- a list has at most 16 bytes for each address, one of them the separator, which the first has not
module _ (sep : Separator) where
  separators_short : (l : List (List ℕ)) → length (with_separators sep l) ≤ 16 * length l
  separators_short [] = omega arith
  separators_short (a ∷ l) = omega (arith, length-append (dotted a) (with_separators sep l), dotted_short a, separators_short l)

  pub listed_short : (l : List (List ℕ)) → length (listed sep l) ≤ 16 * length l - 1
  listed_short [] = omega arith
  listed_short (a ∷ l) = omega (arith, length-append (dotted a) (with_separators sep l), dotted_short a, separators_short l)
