-- "iwd's Address is written always with its length": what is written reads back.
use Rattle.std.specs.Prelude.{ℕ, ◌≤◌, ◌≡◌, refl, true, List, ◌∷◌, ◌++◌, Some}
use Rattle.std.proofs.Common.{arith, ap, ◌∙◌}
use Rattle.text.specs.Bytes.{is_digit}
use Rattle.text.specs.Laws.{all_other}
use Rattle.text.specs.Pieces.{last, next}
use Rattle.text.specs.PieceLaws.{pieces_only}
use Rattle.addresses.specs.Addresses.{prefix_length_of, decimal}
use Rattle.addresses.specs.AddressRuleLaws.{number_is, is_prefix}
use Rattle.addresses.specs.Written.{number_decimal, decimal_digits}
use Rattle.ipv6.specs.Ipv6.{is_ipv6, canonical, is_ipv6_byte}
use Rattle.ipv6.specs.Written.{ipv6_canonical, canonical_bytes}
use Rattle.ipv6_values.specs.Ipv6Values.{address_length, with_length}

prefix_decimal : (n : ℕ) → 1 ≤ n → n ≤ 128 → prefix_length_of 128 (decimal n) ≡ Some n
prefix_decimal n l h =
    let w = number_is 255 (decimal n) (number_decimal n (omega arith)) in
    is_prefix 128 (decimal n) (record { number = record { written = w.written; digits = w.digits; no_leading_zero = w.no_leading_zero; is = w.is; most = h }; least = l })

pub with_length_written : (a : List ℕ) (n : ℕ) → is_ipv6 a ≡ true → 1 ≤ n → n ≤ 128 →
    with_length (canonical a ++ 47 ∷ decimal n) ≡ Some (record { address = a; length = n })
unfolding with_length
with_length_written a n g l h =
    ap address_length (pieces_only 47 (next {p = canonical a} {rest = decimal n} (all_other is_ipv6_byte 47 refl (canonical a) (canonical_bytes a g)) (last (all_other is_digit 47 refl (decimal n) (decimal_digits n (omega arith))))))
    ∙ rw (ipv6_canonical a g, prefix_decimal n l h)
