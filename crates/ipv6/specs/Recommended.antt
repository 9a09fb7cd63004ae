-- RFC 5952, section 4, said of a text and of the eight groups that it is of. `RecommendedLaws` shows that `canonical` keeps
-- to it, and that no other text does.
use Rattle.std.specs.Prelude.{◌≡◌, Bool, true, not, ◌&&◌, ◌||◌, List, [], ◌∷◌, ℕ, ◌+◌, ◌-◌, ◌≤◌, eqb, length, take, drop, replicate, None, Some}
use Rattle.text.specs.Bytes.{is_lower_hex}
use Rattle.text.specs.Parts.{all, pieces}
use Rattle.ipv6.specs.Ipv6.{starts, Halves, halves}

-- a piece between colons: 4.1, "Leading zeros MUST be suppressed."; "A single 16-bit 0000 field MUST be represented as 0.";
-- 4.3, "The characters "a", "b", "c", "d", "e", and "f" in an IPv6 address MUST be represented in lowercase."
abbrev pub tidy : List ℕ → Bool
tidy p = all is_lower_hex p && (not (starts 48 p) || eqb (length p) 1)

abbrev pub all_tidy : List (List ℕ) → Bool
all_tidy [] = true
all_tidy (p ∷ ps) = tidy p && all_tidy ps

-- n zero groups from place i on
pub record ZeroRun (gs : List ℕ) (i n : ℕ) : Type 0 where
  pub within : i + n ≤ length gs
  pub zero : take n (drop i gs) ≡ replicate n 0

-- how many groups a text on one side of "::" has
abbrev pub group_count : List ℕ → ℕ
group_count [] = 0
group_count (x ∷ s) = length (pieces 58 (x ∷ s))

-- what "::" may stand for: 4.2.2, "MUST NOT be used to shorten just one 16-bit 0 field"; 4.2.3, "the longest run of
-- consecutive 16-bit 0 fields MUST be shortened"; of equals, "the first sequence of zero bits MUST be shortened"
pub record Best (gs : List ℕ) (i n : ℕ) : Type 0 where
  pub two : 2 ≤ n
  pub most : (j m : ℕ) → ZeroRun gs j m → m ≤ n
  pub first : (j : ℕ) → ZeroRun gs j n → i ≤ j

-- 4.2.1, "The use of the symbol "::" MUST be used to its maximum capability.": where there is none, no two zero groups
-- stand together; where there is one, it stands for the groups that its two sides leave of eight
abbrev pub Placed : List ℕ → Halves → Type 0
Placed gs None = (j m : ℕ) → ZeroRun gs j m → m ≤ 1
Placed gs (Some h) = Best gs (group_count h.0) (8 - (group_count h.0 + group_count h.1))

pub record Recommended (t gs : List ℕ) : Type 0 where
  pub tidied : all_tidy (pieces 58 t) ≡ true
  pub placed : Placed gs (halves t)
