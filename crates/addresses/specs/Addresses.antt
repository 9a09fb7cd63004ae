-- IPv4 addresses, masks, and lists of addresses, in text.
use Rattle.std.specs.Prelude.{ℕ, zero, suc, ◌+◌, ◌-◌, ◌*◌, ◌/◌, ◌%◌, ◌^◌, Bool, true, cond, ◌&&◌, ◌||◌, List, [], ◌∷◌, ◌++◌, length, replicate, ◌==◌, nat_le, nat_lt, slice_index, Option, None, Some}
use Rattle.text.specs.Bytes.{between, is_digit}
use Rattle.text.specs.Parts.{all, empty, pieces}
use Rattle.text.specs.Options.{is_some, and_then, only, sized, or_empty, each}
use Rattle.addresses.specs.declared.Separator.{Separator}
use Rattle.addresses.specs.declared.Separator.TheVariants.{Spaces, Comma}

-- ---- numbers and addresses

-- the number that decimal digits write, after those of v
unfoldable pub decimal_value : ℕ → List ℕ → Option ℕ
decimal_value v [] = Some v
decimal_value v (c ∷ s) = cond (is_digit c) (decimal_value (v * 10 + (c - 48)) s) None

-- only up to m
abbrev pub up_to : ℕ → Option ℕ → Option ℕ
up_to m None = None
up_to m (Some v) = only (nat_le v m) (Some v)

-- a decimal number of at most m, "no leading zeros"
unfoldable pub number : ℕ → List ℕ → Option ℕ
number m [] = None
number m (c ∷ s) = cond (c == 48) (only (empty s) (Some 0)) (up_to m (decimal_value 0 (c ∷ s)))

abbrev pub octet : List ℕ → Option ℕ
octet = number 255

-- "In text an address is four numbers 0 to 255 with dots, no leading zeros"
unfoldable pub address : List ℕ → Option (List ℕ)
address s = sized 4 4 (each octet (pieces 46 s))

-- so many bytes
abbrev pub is_bytes : ℕ → List ℕ → Bool
is_bytes n a = is_some (sized n n (Some a)) && all (between 0 255) a

-- "inside, an IPv4 address is four bytes, the first written first"
abbrev pub is_address : List ℕ → Bool
is_address a = is_bytes 4 a

abbrev pub are_addresses : List (List ℕ) → Bool
are_addresses [] = true
are_addresses (a ∷ l) = is_address a && are_addresses l

-- ---- masks

abbrev pub positive : ℕ → Option ℕ
positive zero = None
positive (suc k) = Some (suc k)

-- "length (1 to 32, no leading zero)": a prefix length, 1 to m
unfoldable pub prefix_length_of : ℕ → List ℕ → Option ℕ
prefix_length_of m s = and_then (number m s) positive

-- an address as a number, its first byte the most significant
abbrev pub as_number : List ℕ → ℕ
as_number a = ((slice_index a 0 * 256 + slice_index a 1) * 256 + slice_index a 2) * 256 + slice_index a 3

-- "In a mask every one comes before every zero": of 32 bits the first k are ones
abbrev pub mask : ℕ → ℕ
mask k = 2 ^ 32 - 2 ^ (32 - k)

-- "and there is at least one; the mask length is the count of its leading ones": the k from 1 on whose mask m is
unfoldable pub length_up_to : ℕ → ℕ → Option ℕ
length_up_to zero m = None
length_up_to (suc k) m = cond (m == mask (suc k)) (Some (suc k)) (length_up_to k m)

unfoldable pub mask_length : ℕ → Option ℕ
mask_length m = length_up_to 32 m

unfoldable pub netmask : List ℕ → Option ℕ
netmask s = and_then (address s) (λ a. mask_length (as_number a))

-- the four bytes of the mask of length k
unfoldable pub mask_bytes : ℕ → List ℕ
mask_bytes k = mask k / 16777216 ∷ mask k / 65536 % 256 ∷ mask k / 256 % 256 ∷ mask k % 256 ∷ []

-- ---- lists of addresses

abbrev pub separator : Separator → ℕ
separator Spaces = 32
separator Comma = 44

-- "one or more spaces between, trailing spaces allowed": what stands between spaces, without the empty texts behind the
-- first. An empty first text stays, and is no address, so no space stands in front.
abbrev pub non_empty : List (List ℕ) → List (List ℕ)
non_empty [] = []
non_empty (p ∷ ps) = cond (empty p) (non_empty ps) (p ∷ non_empty ps)

abbrev pub spaced : List (List ℕ) → List (List ℕ)
spaced [] = []
spaced (p ∷ ps) = p ∷ non_empty ps

-- "one comma between, no blanks"
abbrev pub fields : Separator → List ℕ → List (List ℕ)
fields Spaces s = spaced (pieces 32 s)
fields Comma s = pieces 44 s

-- "1 to 4 addresses"
unfoldable pub addresses : Separator → List ℕ → Option (List (List ℕ))
addresses sep s = sized 1 4 (each address (fields sep s))

-- the addresses of a list, and 0.0.0.0 up to four: "Places not in use are zero"
abbrev pub no_address : List ℕ
no_address = 0 ∷ 0 ∷ 0 ∷ 0 ∷ []

abbrev pub rows : Option (List (List ℕ)) → List (List ℕ)
rows o = or_empty o ++ replicate (4 - length (or_empty o)) no_address

-- ---- writing

abbrev pub decimal_digit : ℕ → ℕ
decimal_digit n = 48 + n

-- a number up to 999 in decimal
unfoldable pub decimal : ℕ → List ℕ
decimal n =
    cond (nat_lt n 10) (decimal_digit n ∷ [])
    (cond (nat_lt n 100) (decimal_digit (n / 10) ∷ decimal_digit (n % 10) ∷ [])
    (decimal_digit (n / 100) ∷ decimal_digit (n / 10 % 10) ∷ decimal_digit (n % 10) ∷ []))

abbrev pub dot_then : ℕ → List ℕ
dot_then n = 46 ∷ decimal n

-- an address with dots
unfoldable pub dotted : List ℕ → List ℕ
dotted a = decimal (slice_index a 0) ++ dot_then (slice_index a 1) ++ dot_then (slice_index a 2) ++ dot_then (slice_index a 3)

-- addresses, one separator in front of each; and a list, "DNS with single spaces"
abbrev pub with_separators : Separator → List (List ℕ) → List ℕ
with_separators sep [] = []
with_separators sep (a ∷ l) = separator sep ∷ dotted a ++ with_separators sep l

abbrev pub listed : Separator → List (List ℕ) → List ℕ
listed sep [] = []
listed sep (a ∷ l) = dotted a ++ with_separators sep l

-- a byte of such a list
abbrev pub is_list_byte : Separator → ℕ → Bool
is_list_byte sep x = x == separator sep || between 46 57 x
