-- Worked cases: the examples of RFC 4291, sections 2.2 and 2.3, and of RFC 5952, and texts that they rule out.
use Rattle.std.specs.Prelude.{◌≡◌, refl, List, [], ◌∷◌, map, ℕ, Option, None, Some}
use Rattle.text.specs.Words.{word}
use Rattle.text.specs.Options.{mapped}
use Rattle.hex_digits.specs.Hex.{nibble, hex_digit}
use Rattle.addresses.specs.Addresses.{decimal_value, number, address}
use Rattle.ipv6.specs.Ipv6.{hex_value, group, groups, side, halves, ipv6, groups_of, group_digits, longest, canonical}

abbrev Right : {A : Type 0} → (List ℕ → A) → List (List ℕ × A) → Type 0
Right {A} f t = map (λ (c : List ℕ × A). f c.0) t ≡ map (λ (c : List ℕ × A). c.1) t

-- the eight groups that a text gives
abbrev eight : List ℕ → Option (List ℕ)
eight s = mapped groups_of (ipv6 s)

-- RFC 4291, section 2.2: the three forms; "::" at the front, at the end, and for one group; 2.3: leading zeros
pub read_cases : Right eight
    ((word "ABCD:EF01:2345:6789:ABCD:EF01:2345:6789", Some (43981 ∷ 61185 ∷ 9029 ∷ 26505 ∷ 43981 ∷ 61185 ∷ 9029 ∷ 26505 ∷ []))
    ∷ (word "2001:DB8:0:0:8:800:200C:417A", Some (8193 ∷ 3512 ∷ 0 ∷ 0 ∷ 8 ∷ 2048 ∷ 8204 ∷ 16762 ∷ []))
    ∷ (word "FF01:0:0:0:0:0:0:101", Some (65281 ∷ 0 ∷ 0 ∷ 0 ∷ 0 ∷ 0 ∷ 0 ∷ 257 ∷ []))
    ∷ (word "0:0:0:0:0:0:0:1", Some (0 ∷ 0 ∷ 0 ∷ 0 ∷ 0 ∷ 0 ∷ 0 ∷ 1 ∷ []))
    ∷ (word "0:0:0:0:0:0:0:0", Some (0 ∷ 0 ∷ 0 ∷ 0 ∷ 0 ∷ 0 ∷ 0 ∷ 0 ∷ []))
    ∷ (word "2001:DB8::8:800:200C:417A", Some (8193 ∷ 3512 ∷ 0 ∷ 0 ∷ 8 ∷ 2048 ∷ 8204 ∷ 16762 ∷ []))
    ∷ (word "FF01::101", Some (65281 ∷ 0 ∷ 0 ∷ 0 ∷ 0 ∷ 0 ∷ 0 ∷ 257 ∷ []))
    ∷ (word "::1", Some (0 ∷ 0 ∷ 0 ∷ 0 ∷ 0 ∷ 0 ∷ 0 ∷ 1 ∷ []))
    ∷ (word "::", Some (0 ∷ 0 ∷ 0 ∷ 0 ∷ 0 ∷ 0 ∷ 0 ∷ 0 ∷ []))
    ∷ (word "1::", Some (1 ∷ 0 ∷ 0 ∷ 0 ∷ 0 ∷ 0 ∷ 0 ∷ 0 ∷ []))
    ∷ (word "1:2:3:4:5:6:7::", Some (1 ∷ 2 ∷ 3 ∷ 4 ∷ 5 ∷ 6 ∷ 7 ∷ 0 ∷ []))
    ∷ (word "::2:3:4:5:6:7:8", Some (0 ∷ 2 ∷ 3 ∷ 4 ∷ 5 ∷ 6 ∷ 7 ∷ 8 ∷ []))
    ∷ (word "0:0:0:0:0:0:13.1.68.3", Some (0 ∷ 0 ∷ 0 ∷ 0 ∷ 0 ∷ 0 ∷ 3329 ∷ 17411 ∷ []))
    ∷ (word "0:0:0:0:0:FFFF:129.144.52.38", Some (0 ∷ 0 ∷ 0 ∷ 0 ∷ 0 ∷ 65535 ∷ 33168 ∷ 13350 ∷ []))
    ∷ (word "::13.1.68.3", Some (0 ∷ 0 ∷ 0 ∷ 0 ∷ 0 ∷ 0 ∷ 3329 ∷ 17411 ∷ []))
    ∷ (word "::FFFF:129.144.52.38", Some (0 ∷ 0 ∷ 0 ∷ 0 ∷ 0 ∷ 65535 ∷ 33168 ∷ 13350 ∷ []))
    ∷ (word "1:2:3:4:5::13.1.68.3", Some (1 ∷ 2 ∷ 3 ∷ 4 ∷ 5 ∷ 0 ∷ 3329 ∷ 17411 ∷ []))
    ∷ (word "2001:0DB8:0000:CD30:0000:0000:0000:0000", Some (8193 ∷ 3512 ∷ 0 ∷ 52528 ∷ 0 ∷ 0 ∷ 0 ∷ 0 ∷ []))
    ∷ (word "2001:0DB8::CD30:0:0:0:0", Some (8193 ∷ 3512 ∷ 0 ∷ 52528 ∷ 0 ∷ 0 ∷ 0 ∷ 0 ∷ []))
    ∷ (word "2001:0DB8:0:CD30::", Some (8193 ∷ 3512 ∷ 0 ∷ 52528 ∷ 0 ∷ 0 ∷ 0 ∷ 0 ∷ []))
    ∷ (word "2001:0DB8::CD30", Some (8193 ∷ 3512 ∷ 0 ∷ 0 ∷ 0 ∷ 0 ∷ 0 ∷ 52528 ∷ []))
    ∷ [])
unfolding nibble hex_value group number decimal_value address groups side halves ipv6
read_cases = refl

-- "one or more groups of 16 bits of zeros"; "can only appear once"; "one to four hexadecimal digits"; "the eight 16-bit
-- pieces"; "at least one numeral in every field"; "the four low-order 8-bit pieces", as document 01 reads an address; no
-- zone, no brackets, no length, no blanks
pub refused_cases : Right eight
    ((word "1:2:3:4:5:6:7::8", None)
    ∷ (word "1:2:3:4:5:6::1.2.3.4", None)
    ∷ (word "1::2::3", None)
    ∷ (word ":::", None)
    ∷ (word "12345::", None)
    ∷ (word "::12345", None)
    ∷ (word "::g", None)
    ∷ (word "1:2:3:4:5:6:7", None)
    ∷ (word "1:2:3:4:5:6:7:8:9", None)
    ∷ (word "2001:0DB8:0:CD3", None)
    ∷ (word "1:", None)
    ∷ (word ":1:2:3:4:5:6:7", None)
    ∷ (word "", None)
    ∷ (word ":", None)
    ∷ (word "1.2.3.4::", None)
    ∷ (word "::1.2.3.4:5", None)
    ∷ (word "1.2.3.4", None)
    ∷ (word "1:2:3:4:5:6:7:1.2.3.4", None)
    ∷ (word "::1.2.3", None)
    ∷ (word "::1.2.3.4.5", None)
    ∷ (word "::01.2.3.4", None)
    ∷ (word "::1.2.3.256", None)
    ∷ (word "fe80::1%1", None)
    ∷ (word "[::1]", None)
    ∷ (word "::1/64", None)
    ∷ (word " ::1", None)
    ∷ (word "::1 ", None)
    ∷ [])
unfolding nibble hex_value group number decimal_value address groups side halves ipv6
refused_cases = refl

-- a text read, and the address written
abbrev rewritten : List ℕ → Option (List ℕ)
rewritten s = mapped canonical (ipv6 s)

-- RFC 5952, sections 4.1 to 4.3; runs at the front, at the end and at both, of equal length and of one group; addresses of
-- section 5, whose tail is not dotted here (house)
pub written_cases : Right rewritten
    ((word "2001:0db8::0001", Some (word "2001:db8::1"))
    ∷ (word "2001:db8:0:0:0:0:2:1", Some (word "2001:db8::2:1"))
    ∷ (word "2001:db8::0:1", Some (word "2001:db8::1"))
    ∷ (word "2001:db8:0:1:1:1:1:1", Some (word "2001:db8:0:1:1:1:1:1"))
    ∷ (word "2001:db8::1:1:1:1:1", Some (word "2001:db8:0:1:1:1:1:1"))
    ∷ (word "2001:0:0:1:0:0:0:1", Some (word "2001:0:0:1::1"))
    ∷ (word "2001:db8:0:0:1:0:0:1", Some (word "2001:db8::1:0:0:1"))
    ∷ (word "2001:db8:aaaa:bbbb:cccc:dddd:eeee:AaAa", Some (word "2001:db8:aaaa:bbbb:cccc:dddd:eeee:aaaa"))
    ∷ (word "0:0:0:0:0:0:0:0", Some (word "::"))
    ∷ (word "0::1", Some (word "::1"))
    ∷ (word "1:0:0:0:0:0:0:0", Some (word "1::"))
    ∷ (word "1:2:3:4:5:6:0:0", Some (word "1:2:3:4:5:6::"))
    ∷ (word "0:0:1:2:3:4:0:0", Some (word "::1:2:3:4:0:0"))
    ∷ (word "0:0:1:2:3:0:0:0", Some (word "0:0:1:2:3::"))
    ∷ (word "0:1:2:3:4:5:6:0", Some (word "0:1:2:3:4:5:6:0"))
    ∷ (word "::13.1.68.3", Some (word "::d01:4403"))
    ∷ (word "::ffff:192.0.2.1", Some (word "::ffff:c000:201"))
    ∷ [])
unfolding nibble hex_value group number decimal_value address groups side halves ipv6 hex_digit group_digits longest canonical
written_cases = refl
