-- Numbers, addresses and the fields of a list by index: what `numbers` and `lists` find of them.
use Rattle.std.specs.Prelude.{◌≡◌, ℕ, ◌+◌, ◌<◌, ◌≤◌, Bool, true, false, ◌||◌, List, [], length, drop, ◌==◌, slice_index, Option, None, Some}
use Rattle.text.specs.Bytes.{is_digit}
use Rattle.text.specs.Parts.{empty, front, pieces}
use Rattle.text.specs.Options.{only, or_empty}
use Rattle.text.specs.Scans.{Scan}
use Rattle.addresses.specs.declared.Separator.{Separator}
use Rattle.addresses.specs.declared.Separator.TheVariants.{Spaces, Comma}
use Rattle.addresses.specs.declared.Octet.{Octet}
use Rattle.addresses.specs.declared.FoundAddress.{FoundAddress}
use Rattle.addresses.specs.Addresses.{octet, address, separator, non_empty, fields, rows}

-- ---- the numbers of an address, and an address

-- at index i stands the digit d
pub record Digit (s : List ℕ) (i d : ℕ) : Type 0 where
  pub within : i < length s
  pub small : d ≤ 9
  pub is : slice_index s i ≡ 48 + d

-- at index i stands no digit
pub record NoDigit (s : List ℕ) (i : ℕ) : Type 0 where
  pub is_not : i < length s → is_digit (slice_index s i) ≡ false

-- the value of the digit at index i, if one stands there
abbrev pub DigitAt : List ℕ → ℕ → Option ℕ → Type 0
DigitAt s i None = NoDigit s i
DigitAt s i (Some d) = Digit s i d

-- every byte that passes q passes p
abbrev pub Includes : (ℕ → Bool) → (ℕ → Bool) → Type 0
Includes p q = (x : ℕ) → q x ≡ true → p x ≡ true

-- the bytes from index i on, as far as they pass
abbrev pub run : (ℕ → Bool) → List ℕ → ℕ → List ℕ
run p s i = front p (drop i s)

-- A reader that hands back its end: bytes that pass q reach from at to e, and of any p that includes q, the bytes from at on
-- that pass p read as a if none of them stands behind e, and are broken otherwise.
pub record ReadAt {A : Type 0} (f : List ℕ → Option A) (q : ℕ → Bool) (s : List ℕ) (at e : ℕ) (a : A) : Type 0 where
  pub scan : (p : ℕ → Bool) → Includes p q → Scan p s at e
  pub is : (p : ℕ → Bool) → Includes p q → f (run p s at) ≡ only (empty (run p s e)) (Some a)

-- nothing is read at at: of any p that includes q, the bytes from at on that pass p are broken
pub record NoneAt {A : Type 0} (f : List ℕ → Option A) (q : ℕ → Bool) (s : List ℕ) (at : ℕ) : Type 0 where
  pub is_none : (p : ℕ → Bool) → Includes p q → f (run p s at) ≡ None

-- the number that starts at at
abbrev pub OctetAt : List ℕ → ℕ → Option Octet → Type 0
OctetAt s at None = NoneAt octet is_digit s at
OctetAt s at (Some r) = ReadAt octet is_digit s at r.end r.value

-- a byte of an address, and the address that starts at at
abbrev pub is_address_byte : ℕ → Bool
is_address_byte x = is_digit x || x == 46

abbrev pub AddressAt : List ℕ → ℕ → Option FoundAddress → Type 0
AddressAt s at None = NoneAt address is_address_byte s at
AddressAt s at (Some r) = ReadAt address is_address_byte s at r.end r.bytes

-- ---- the fields of a list

-- the fields of the pieces that stand behind the first
abbrev pub others : Separator → List (List ℕ) → List (List ℕ)
others Spaces ps = non_empty ps
others Comma ps = ps

-- behind a separator at index i the next field starts at n
pub record FieldAt (sep : Separator) (s : List ℕ) (i n : ℕ) : Type 0 where
  pub within : n ≤ length s
  pub is : others sep (pieces (separator sep) (drop (i + 1) s)) ≡ fields sep (drop n s)

-- behind a separator at index i is no field
pub record NoField (sep : Separator) (s : List ℕ) (i : ℕ) : Type 0 where
  pub is_none : others sep (pieces (separator sep) (drop (i + 1) s)) ≡ []

abbrev pub NextField : Separator → List ℕ → ℕ → Option ℕ → Type 0
NextField sep s i None = NoField sep s i
NextField sep s i (Some n) = FieldAt sep s i n

-- n addresses of the list o were read into the front of x, and 0.0.0.0 stands behind them
pub record FilledBy (o : Option (List (List ℕ))) (x : List (List ℕ)) (n : ℕ) : Type 0 where
  pub count : n ≡ length (or_empty o)
  pub array : x ≡ rows o

-- so many addresses of the list o, or none of a list that is broken
abbrev pub Filled : Option (List (List ℕ)) → List (List ℕ) → Option ℕ → Type 0
Filled o x None = o ≡ None
Filled o x (Some n) = FilledBy o x n
