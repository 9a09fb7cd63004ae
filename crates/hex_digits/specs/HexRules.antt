-- What hex digits write, said of the digits. `HexRuleLaws` shows that `unhex` keeps to it.
use Rattle.std.specs.Prelude.{ℕ, ◌+◌, ◌*◌, ◌<◌, ◌≡◌, List, [], ◌∷◌}

-- "Hex digits may be either case.": a digit `0` to `9`, `a` to `f` or `A` to `F`, and its value
pub data HexDigit : ℕ → ℕ → Type 0 where
  decimal : (n : ℕ) → n < 10 → HexDigit (48 + n) n
  lower : (n : ℕ) → n < 6 → HexDigit (97 + n) (10 + n)
  upper : (n : ℕ) → n < 6 → HexDigit (65 + n) (10 + n)

-- a pair of digits, and the byte that it writes: the first digit counts sixteens
pub record HexPair (a b byte : ℕ) : Type 0 where
  pub sixteens : ℕ
  pub ones : ℕ
  pub first : HexDigit a sixteens
  pub second : HexDigit b ones
  pub is : sixteens * 16 + ones ≡ byte

-- pairs of digits, and the bytes that they write
pub data Hex : List ℕ → List ℕ → Type 0 where
  no_more : Hex [] []
  pair : {a b byte : ℕ} {s t : List ℕ} → HexPair a b byte → Hex s t → Hex (a ∷ b ∷ s) (byte ∷ t)
