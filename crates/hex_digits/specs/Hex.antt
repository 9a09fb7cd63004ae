-- Bytes in hexadecimal.
use Rattle.std.specs.Prelude.{ℕ, ◌+◌, ◌-◌, ◌*◌, ◌/◌, ◌%◌, cond, ◌&&◌, List, [], ◌∷◌, ltb, Option, None, Some}
use Rattle.text.specs.Bytes.{between, is_digit}
use Rattle.text.specs.Options.{and_then, only, prepend}

-- "Hex digits may be either case": the value of a digit, 16 where the byte is none
unfoldable pub nibble : ℕ → ℕ
nibble c = cond (is_digit c) (c - 48) (cond (between 97 102 c) (c - 87) (cond (between 65 70 c) (c - 55) 16))

-- a hex digit's value; none where the byte is no digit
abbrev pub digit : ℕ → Option ℕ
digit c = only (ltb (nibble c) 16) (Some (nibble c))

-- the byte that a pair of hex digits writes, the first counting sixteens; none where one is no digit
abbrev pub pair_byte : ℕ → ℕ → Option ℕ
pair_byte a b = only (ltb (nibble a) 16 && ltb (nibble b) 16) (Some (nibble a * 16 + nibble b))

-- the bytes that pairs of hex digits write; none where a byte is no digit or the count is odd
unfoldable pub unhex : List ℕ → Option (List ℕ)
unhex [] = Some []
unhex (a ∷ []) = None
unhex (a ∷ b ∷ s) = and_then (pair_byte a b) (λ x. prepend x (unhex s))

-- "lower-case hex"
unfoldable pub hex_digit : ℕ → ℕ
hex_digit n = cond (ltb n 10) (48 + n) (87 + n)

unfoldable pub hex : List ℕ → List ℕ
hex [] = []
hex (b ∷ s) = hex_digit (b / 16) ∷ hex_digit (b % 16) ∷ hex s
