-- Values in hex, as document 01 lists them under "Settings and their kinds": a MAC, a key, a network name; none where the value breaks its kind.
use Rattle.std.specs.Prelude.{ℕ, List, [], ◌∷◌, eqb, Option, None, Some}
use Rattle.text.specs.Options.{and_then, only, sized, prepend}
use Rattle.hex_digits.specs.Hex.{pair_byte, unhex}

-- a colon and a pair, again and again
unfoldable pub colon_pairs : List ℕ → Option (List ℕ)
colon_pairs [] = Some []
colon_pairs (c ∷ []) = None
colon_pairs (c ∷ a ∷ []) = None
colon_pairs (c ∷ a ∷ b ∷ s) = only (eqb c 58) (and_then (pair_byte a b) (λ x. prepend x (colon_pairs s)))

abbrev pub pairs : List ℕ → Option (List ℕ)
pairs [] = None
pairs (a ∷ []) = None
pairs (a ∷ b ∷ s) = and_then (pair_byte a b) (λ x. prepend x (colon_pairs s))

-- "A MAC is 17 bytes, six pairs of hex digits with colons."
unfoldable pub mac : List ℕ → Option (List ℕ)
mac s = and_then (sized 17 17 (Some s)) pairs

-- "PreSharedKey (64 hex digits)"
unfoldable pub pre_shared_key_of : List ℕ → Option (List ℕ)
pre_shared_key_of s = and_then (sized 64 64 (Some s)) unhex

-- "SSID (2 to 64 hex digits, an even count)"
unfoldable pub ssid : List ℕ → Option (List ℕ)
ssid s = and_then (sized 2 64 (Some s)) unhex
