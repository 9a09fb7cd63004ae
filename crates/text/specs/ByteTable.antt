-- The table of bytes: for each byte an entry that tells, bit by bit, what it is; and which bits make up a class.
use Rattle.std.specs.Prelude.{ℕ, ◌+◌, ◌*◌, Bool, cond, not, List, [], ◌∷◌, eqb}
use Rattle.std.specs.Int.Bits.{bit_and}
use Rattle.text.specs.declared.Dialect.{Dialect}
use Rattle.text.specs.declared.Dialect.TheVariants.{Iwd, ConnMan}
use Rattle.text.specs.declared.Class.{Class}
use Rattle.text.specs.declared.Class.TheVariants.{Space, Header, Plain, Alphanumeric, Identifier, HexDigit, LowerHex, Entry}
use Rattle.text.specs.Bytes.{is_letter, is_digit, is_hex_digit, is_blank}

-- "letter, digit, hex digit and blank", and the bytes by which document 01's classes differ: `_`, `-`, `.` and space
abbrev pub columns : ℕ → List Bool
columns x = is_letter x ∷ is_digit x ∷ is_hex_digit x ∷ is_blank x ∷ eqb x 95 ∷ eqb x 45 ∷ eqb x 46 ∷ eqb x 32 ∷ []

-- the number with these bits, the first of which is worth w
abbrev pub number : ℕ → List Bool → ℕ
number w [] = 0
number w (b ∷ bs) = cond b w 0 + number (w * 2) bs

unfoldable pub entry_of : ℕ → ℕ
entry_of x = number 1 (columns x)

-- an entry has a bit of the mask
abbrev pub meets : ℕ → ℕ → Bool
meets mask e = not (eqb (bit_and e mask) 0)

unfoldable pub chosen : ℕ → ℕ → Bool
chosen mask x = meets mask (entry_of x)

-- the bits of a key's bytes, and of a class; none of a class whose bytes are compared
abbrev pub key_columns : Dialect → ℕ
key_columns Iwd = 1 + 2 + 16 + 32
key_columns ConnMan = 1 + 2 + 16 + 32 + 64

abbrev pub columns_of : Class → ℕ
columns_of Space = 128
columns_of Header = 0
columns_of Plain = 1 + 2 + 16 + 32 + 128
columns_of Alphanumeric = 1 + 2
columns_of Identifier = 1 + 2 + 16
columns_of HexDigit = 4
columns_of LowerHex = 0
columns_of Entry = 0
