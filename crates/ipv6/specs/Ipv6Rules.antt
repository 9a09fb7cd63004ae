-- IPv6 addresses, said of the bytes of their text as RFC 4291 says in section 2.2. `Ipv6RuleLaws` shows that `ipv6` keeps
-- to it.
use Rattle.std.specs.Prelude.{ℕ, ◌+◌, ◌*◌, ◌≤◌, ◌<◌, ◌≡◌, List, [], ◌∷◌, ◌++◌, length, replicate}
use Rattle.text.specs.Pieces.{Pieces}
use Rattle.text.specs.Relations.{Sized, Pairwise}
use Rattle.hex_digits.specs.HexRules.{HexDigit}
use Rattle.addresses.specs.AddressRules.{AddressIs}

-- ---- groups

-- the number that digits of these values write behind those of n
abbrev pub hex_from : ℕ → List ℕ → ℕ
hex_from n [] = n
hex_from n (x ∷ values) = hex_from (n * 16 + x) values

-- "one to four hexadecimal digits": a group, and the number that its digits write
pub record GroupIs (p : List ℕ) (v : ℕ) : Type 0 where
  pub values : List ℕ
  pub digits : Pairwise HexDigit p values
  pub count : Sized 1 4 p
  pub is : hex_from 0 values ≡ v

-- groups, and their bytes: the high-order eight bits of each, and the low-order eight
pub data GroupsAre : List (List ℕ) → List ℕ → Type 0 where
  no_more : GroupsAre [] []
  next : {p : List ℕ} {high low : ℕ} {ps : List (List ℕ)} {bytes : List ℕ}
      → GroupIs p (high * 256 + low) → low < 256 → GroupsAre ps bytes → GroupsAre (p ∷ ps) (high ∷ low ∷ bytes)

-- groups, or groups and then "d.d.d.d", "the decimal values of the four low-order 8-bit pieces of the address (standard
-- IPv4 representation)"
pub data TailedAre : List (List ℕ) → List ℕ → Type 0 where
  plain : {ps : List (List ℕ)} {bytes : List ℕ} → GroupsAre ps bytes → TailedAre ps bytes
  dotted : {ps : List (List ℕ)} {p bytes tail : List ℕ}
      → GroupsAre ps bytes → AddressIs p tail → TailedAre (ps ++ (p ∷ [])) (bytes ++ tail)

-- ---- addresses

-- a text on one side of "::": none, or pieces with colons between them
pub data Colons : List ℕ → List (List ℕ) → Type 0 where
  nothing : Colons [] []
  some_pieces : {v : List ℕ} {ps : List (List ℕ)} → Pieces 58 v ps → Colons v ps

-- "The preferred form is x:x:x:x:x:x:x:x"; "An alternative form .. is x:x:x:x:x:x:d.d.d.d";
-- "The use of "::" indicates one or more groups of 16 bits of zeros. The "::" can only appear once in an address. The "::"
-- can also be used to compress leading or trailing zeros in an address."
pub data Ipv6Is : List ℕ → List ℕ → Type 0 where
  full : {v bytes : List ℕ} {ps : List (List ℕ)}
      → Pieces 58 v ps → TailedAre ps bytes → Sized 16 16 bytes → Ipv6Is v bytes
  compressed : {before behind front back : List ℕ} {ps qs : List (List ℕ)}
      → Colons before ps → GroupsAre ps front → Colons behind qs → TailedAre qs back
      → (zero_groups : ℕ) → 1 ≤ zero_groups → length front + 2 * zero_groups + length back ≡ 16
      → Ipv6Is (before ++ (58 ∷ 58 ∷ behind)) (front ++ replicate (2 * zero_groups) 0 ++ back)
