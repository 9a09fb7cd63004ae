-- Values in hex, said of the bytes: `HexValueRuleLaws` shows that `mac`, `pre_shared_key_of` and `ssid` keep to it.
use Rattle.std.specs.Prelude.{ℕ, List, [], ◌∷◌}
use Rattle.text.specs.Relations.{Sized}
use Rattle.hex_digits.specs.HexRules.{HexPair, Hex}

-- pairs of hex digits with colons between, and the bytes that they write
pub data ColonPairs : List ℕ → List ℕ → Type 0 where
  last : {a b byte : ℕ} → HexPair a b byte → ColonPairs (a ∷ b ∷ []) (byte ∷ [])
  next : {a b byte : ℕ} {s t : List ℕ} → HexPair a b byte → ColonPairs s t → ColonPairs (a ∷ b ∷ 58 ∷ s) (byte ∷ t)

-- "A MAC is 17 bytes, six pairs of hex digits with colons."
pub record MacIs (v bytes : List ℕ) : Type 0 where
  pub size : Sized 17 17 v
  pub six : Sized 6 6 bytes
  pub pairs : ColonPairs v bytes

-- "PreSharedKey (64 hex digits)"
pub record PreSharedKeyIs (v bytes : List ℕ) : Type 0 where
  pub size : Sized 64 64 v
  pub digits : Hex v bytes

-- "SSID (2 to 64 hex digits, an even count)"
pub record SsidIs (v bytes : List ℕ) : Type 0 where
  pub size : Sized 2 64 v
  pub digits : Hex v bytes
