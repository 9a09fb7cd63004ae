-- Addresses, masks and lists of addresses, said of the bytes of their text. `AddressRuleLaws` and `MaskRuleLaws` show
-- that the readings keep to it.
use Rattle.std.specs.Prelude.{◌≡◌, ℕ, ◌+◌, ◌-◌, ◌*◌, ◌/◌, ◌%◌, ◌≤◌, true, List, [], ◌∷◌, ◌++◌, replicate}
use Rattle.text.specs.Bytes.{other, is_digit}
use Rattle.text.specs.Parts.{all}
use Rattle.text.specs.Pieces.{Pieces}
use Rattle.text.specs.Relations.{Sized, Pairwise}
use Rattle.addresses.specs.declared.Separator.{Separator}
use Rattle.addresses.specs.declared.Separator.TheVariants.{Spaces, Comma}

-- ---- numbers and addresses

-- the number that decimal digits write behind those of n
abbrev pub decimal_from : ℕ → List ℕ → ℕ
decimal_from n [] = n
decimal_from n (c ∷ s) = decimal_from (n * 10 + (c - 48)) s

-- the digits of n, a number up to m: "no leading zeros"
pub record NumberIs (m : ℕ) (s : List ℕ) (n : ℕ) : Type 0 where
  pub written : ¬ (s ≡ [])
  pub digits : all is_digit s ≡ true
  pub no_leading_zero : (rest : List ℕ) → s ≡ 48 ∷ rest → rest ≡ []
  pub is : decimal_from 0 s ≡ n
  pub most : n ≤ m

-- "In text an address is four numbers 0 to 255 with dots, no leading zeros";
-- "inside, an IPv4 address is four bytes, the first written first"
pub record AddressIs (v bytes : List ℕ) : Type 0 where
  pub numbers : List (List ℕ)
  pub dots : Pieces 46 v numbers
  pub four : Sized 4 4 bytes
  pub each : Pairwise (NumberIs 255) numbers bytes

-- ---- masks

-- the eight bits of a byte, and the bits of bytes: the most significant first, the first byte first
abbrev pub bits_of : ℕ → List ℕ
bits_of b = b / 128 % 2 ∷ b / 64 % 2 ∷ b / 32 % 2 ∷ b / 16 % 2 ∷ b / 8 % 2 ∷ b / 4 % 2 ∷ b / 2 % 2 ∷ b % 2 ∷ []

abbrev pub bits : List ℕ → List ℕ
bits [] = []
bits (b ∷ bytes) = bits_of b ++ bits bytes

-- "In a mask every one comes before every zero and there is at least one; the mask length is the count of its
-- leading ones.": the bits are n ones, and then zeros
pub record MaskIs (v : List ℕ) (n : ℕ) : Type 0 where
  pub bytes : List ℕ
  pub address : AddressIs v bytes
  pub zeros : ℕ
  pub ones_first : bits bytes ≡ replicate n 1 ++ replicate zeros 0
  pub least : 1 ≤ n

-- "length (1 to 32, no leading zero)": a prefix length, 1 to m
pub record LengthIs (m : ℕ) (v : List ℕ) (n : ℕ) : Type 0 where
  pub number : NumberIs m v n
  pub least : 1 ≤ n

-- ---- lists of addresses

-- a text of one or more bytes without a space
pub record Part (p : List ℕ) : Type 0 where
  pub written : ¬ (p ≡ [])
  pub unspaced : all (other 32) p ≡ true

-- "one or more spaces between, trailing spaces allowed"
pub data Spaced : List ℕ → List (List ℕ) → Type 0 where
  last : {p : List ℕ} → Part p → (trailing : ℕ) → Spaced (p ++ replicate trailing 32) (p ∷ [])
  next : {p rest : List ℕ} {ps : List (List ℕ)}
      → Part p → (further : ℕ) → Spaced rest ps → Spaced (p ++ (32 ∷ replicate further 32 ++ rest)) (p ∷ ps)

-- "one comma between, no blanks"; spaces between in iwd
abbrev pub Split : Separator → List ℕ → List (List ℕ) → Type 0
Split Comma v ps = Pieces 44 v ps
Split Spaces v ps = Spaced v ps

-- "Nameservers (1 to 4 addresses, ..)", "DNS (1 to 4 addresses, ..)"
pub record AddressesIs (sep : Separator) (v : List ℕ) (l : List (List ℕ)) : Type 0 where
  pub texts : List (List ℕ)
  pub split : Split sep v texts
  pub each : Pairwise AddressIs texts l
  pub count : Sized 1 4 l
