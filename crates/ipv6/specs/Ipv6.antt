-- IPv6 addresses in text: RFC 4291, section 2.2, read, and RFC 5952, section 4, written.
use Rattle.std.specs.Prelude.{ℕ, suc, ◌+◌, ◌-◌, ◌*◌, ◌/◌, ◌%◌, Bool, true, false, cond, ◌&&◌, ◌||◌, List, [], ◌∷◌, ◌++◌, eqb, leb, ltb, length, take, drop, replicate, Option, None, Some}
use Rattle.text.specs.Bytes.{between, is_lower_hex}
use Rattle.text.specs.Parts.{pieces}
use Rattle.text.specs.Options.{and_then, mapped, or_else, only, sized, glue}
use Rattle.hex_digits.specs.Hex.{nibble, hex_digit}
use Rattle.addresses.specs.Addresses.{is_bytes, address}
use Rattle.ipv6.specs.declared.Run.{Run}

-- "IPv6 addresses are 128-bit identifiers": sixteen bytes, the first written first
abbrev pub is_ipv6 : List ℕ → Bool
is_ipv6 a = is_bytes 16 a

-- ---- reading

-- the number that hex digits of either case write, behind those of v
unfoldable pub hex_value : ℕ → List ℕ → Option ℕ
hex_value v [] = Some v
hex_value v (c ∷ s) = cond (ltb (nibble c) 16) (hex_value (v * 16 + nibble c) s) None

-- "one to four hexadecimal digits of the eight 16-bit pieces of the address"
unfoldable pub group : List ℕ → Option ℕ
group p = only (between 1 4 (length p)) (hex_value 0 p)

-- the two bytes of a group, the high-order one first
abbrev pub group_bytes : ℕ → List ℕ
group_bytes v = v / 256 ∷ v % 256 ∷ []

-- the bytes of a piece between colons: of a group, or, where it may be dotted, "the decimal values of the four low-order
-- 8-bit pieces of the address (standard IPv4 representation)"
abbrev pub piece : Bool → List ℕ → Option (List ℕ)
piece dotted p = or_else (mapped group_bytes (group p)) (only dotted (address p))

-- whether no piece stands behind
abbrev pub is_last : List (List ℕ) → Bool
is_last [] = true
is_last (p ∷ ps) = false

-- the bytes of pieces, of which the last may be dotted: "x:x:x:x:x:x:x:x", "x:x:x:x:x:x:d.d.d.d"
unfoldable pub groups : Bool → List (List ℕ) → Option (List ℕ)
groups dotted [] = Some []
groups dotted (p ∷ ps) = and_then (piece (dotted && is_last ps) p) (λ b. glue b (groups dotted ps))

-- the bytes of a text on one side of "::", which may be empty; an address has sixteen
unfoldable pub side : Bool → List ℕ → Option (List ℕ)
side dotted [] = Some []
side dotted (x ∷ s) = sized 0 16 (groups dotted (pieces 58 (x ∷ s)))

-- the texts before and behind the first "::", where there is one
abbrev pub starts : ℕ → List ℕ → Bool
starts b [] = false
starts b (x ∷ s) = eqb x b

abbrev pub Halves : Type 0
Halves = Option (List ℕ × List ℕ)

abbrev pub infront : ℕ → Halves → Halves
infront x None = None
infront x (Some h) = Some (x ∷ h.0, h.1)

unfoldable pub halves : List ℕ → Halves
halves [] = None
halves (x ∷ s) = cond (eqb x 58 && starts 58 s) (Some ([], drop 1 s)) (infront x (halves s))

-- "The use of "::" indicates one or more groups of 16 bits of zeros.": those that the bytes on its two sides leave of sixteen
abbrev pub spread : List ℕ → List ℕ → Option (List ℕ)
spread f b = only (leb (length f + length b) 14) (Some (f ++ replicate (16 - (length f + length b)) 0 ++ b))

-- "The "::" can only appear once in an address.": a second one leaves an empty piece, which is no group
abbrev pub whole : List ℕ → Halves → Option (List ℕ)
whole s None = sized 16 16 (side true s)
whole s (Some h) = and_then (side false h.0) (λ f. and_then (side true h.1) (spread f))

unfoldable pub ipv6 : List ℕ → Option (List ℕ)
ipv6 s = whole s (halves s)

-- ---- writing

-- the eight 16-bit groups of an address
abbrev pub groups_of : List ℕ → List ℕ
groups_of [] = []
groups_of (h ∷ []) = []
groups_of (h ∷ l ∷ a) = (h * 256 + l) ∷ groups_of a

-- 4.1, "Leading zeros MUST be suppressed.", and 4.3, "The characters "a", "b", "c", "d", "e", and "f" in an IPv6 address
-- MUST be represented in lowercase."
unfoldable pub group_digits : ℕ → List ℕ
group_digits v =
    cond (ltb v 16) (hex_digit v ∷ [])
    (cond (ltb v 256) (hex_digit (v / 16) ∷ hex_digit (v % 16) ∷ [])
    (cond (ltb v 4096) (hex_digit (v / 256) ∷ hex_digit (v / 16 % 16) ∷ hex_digit (v % 16) ∷ [])
    (hex_digit (v / 4096) ∷ hex_digit (v / 256 % 16) ∷ hex_digit (v / 16 % 16) ∷ hex_digit (v % 16) ∷ [])))

-- groups, a colon in front of each; and groups with colons between them
abbrev pub colon_groups : List ℕ → List ℕ
colon_groups [] = []
colon_groups (g ∷ gs) = 58 ∷ group_digits g ++ colon_groups gs

abbrev pub joined_groups : List ℕ → List ℕ
joined_groups [] = []
joined_groups (g ∷ gs) = group_digits g ++ colon_groups gs

-- how many zero groups stand in front
abbrev pub zero_groups : List ℕ → ℕ
zero_groups [] = 0
zero_groups (g ∷ gs) = cond (eqb g 0) (suc (zero_groups gs)) 0

-- 4.2.3, "the longest run of consecutive 16-bit 0 fields MUST be shortened"; "When the length of the consecutive 16-bit 0
-- fields are equal .., the first sequence of zero bits MUST be shortened."
abbrev pub run_here : Bool → ℕ → Run → Run
run_here true n r = record { start = 0; len = n }
run_here false n r = record { start = suc r.start; len = r.len }

unfoldable pub longest : List ℕ → Run
longest [] = record { start = 0; len = 0 }
longest (g ∷ gs) = run_here (leb (longest gs).len (zero_groups (g ∷ gs))) (zero_groups (g ∷ gs)) (longest gs)

-- 4.2.2, "The symbol "::" MUST NOT be used to shorten just one 16-bit 0 field."
abbrev pub shortened : List ℕ → Run → List ℕ
shortened gs r =
    cond (ltb r.len 2) (joined_groups gs)
    (joined_groups (take r.start gs) ++ (58 ∷ 58 ∷ []) ++ joined_groups (drop (r.start + r.len) gs))

-- the text of an address; a dotted tail is never written (house)
unfoldable pub canonical : List ℕ → List ℕ
canonical a = shortened (groups_of a) (longest (groups_of a))

-- a byte of such a text: a lower-case hex digit or a colon
abbrev pub is_ipv6_byte : ℕ → Bool
is_ipv6_byte x = is_lower_hex x || eqb x 58
