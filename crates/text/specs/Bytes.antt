-- The classes of bytes, each as document 01 names it. Letters and digits are ASCII's everywhere.
use Rattle.std.specs.Prelude.{ℕ, Bool, false, not, ◌&&◌, ◌||◌, eqb, leb, ltb}
use Rattle.text.specs.declared.Dialect.{Dialect}
use Rattle.text.specs.declared.Dialect.TheVariants.{Iwd, ConnMan}
use Rattle.text.specs.declared.Class.{Class}
use Rattle.text.specs.declared.Class.TheVariants.{Space, Header, Plain, Alphanumeric, Identifier, HexDigit, LowerHex, Entry}

-- a number that is a byte
abbrev pub is_byte : ℕ → Bool
is_byte b = ltb b 256

-- a byte from a to b; every byte but b
abbrev pub between : ℕ → ℕ → ℕ → Bool
between a b x = leb a x && leb x b

abbrev pub other : ℕ → ℕ → Bool
other b x = not (eqb x b)

-- "letters, digits"
abbrev pub is_letter : ℕ → Bool
is_letter x = between 97 122 x || between 65 90 x

abbrev pub is_digit : ℕ → Bool
is_digit x = between 48 57 x

abbrev pub is_alphanumeric : ℕ → Bool
is_alphanumeric x = is_letter x || is_digit x

-- "Hex digits may be either case."
abbrev pub is_hex_digit : ℕ → Bool
is_hex_digit x = is_digit x || (between 97 102 x || between 65 70 x)

-- "lower-case hex"
abbrev pub is_lower_hex : ℕ → Bool
is_lower_hex x = is_digit x || between 97 102 x

-- "A line ends at byte 10": a byte within a line is any other.
abbrev pub in_line : ℕ → Bool
in_line = other 10

-- "Whitespace is space and tab (house)."
abbrev pub is_blank : ℕ → Bool
is_blank x = eqb x 32 || eqb x 9

-- "bytes 32 to 126 other than `[` and `]`"
abbrev pub is_header_byte : ℕ → Bool
is_header_byte x = other 91 x && (other 93 x && between 32 126 x)

-- key bytes: "letters, digits, `_`, `-`" in iwd, "those and `.`" in ConnMan
abbrev pub is_joint : ℕ → Bool
is_joint x = eqb x 95 || eqb x 45

abbrev pub is_key_dot : Dialect → ℕ → Bool
is_key_dot Iwd x = false
is_key_dot ConnMan x = eqb x 46

unfoldable pub is_key_byte : Dialect → ℕ → Bool
is_key_byte d x = is_alphanumeric x || (is_joint x || is_key_dot d x)

-- a byte of a network name that stands plainly in a file name: "a letter, digit, space, `_` or `-`"
unfoldable pub is_plain : ℕ → Bool
is_plain x = eqb x 32 || (is_alphanumeric x || is_joint x)

-- a byte behind `service_`: "letters, digits or `_`"
abbrev pub is_identifier : ℕ → Bool
is_identifier x = eqb x 95 || is_alphanumeric x

-- a byte of an entry of SearchDomains or Timeservers: "without comma, space or tab"
abbrev pub is_entry_byte : ℕ → Bool
is_entry_byte x = other 44 x && not (is_blank x)

-- the bytes of a class
abbrev pub member_of : Class → ℕ → Bool
member_of Space = λ x. eqb x 32
member_of Header = is_header_byte
member_of Plain = is_plain
member_of Alphanumeric = is_alphanumeric
member_of Identifier = is_identifier
member_of HexDigit = is_hex_digit
member_of LowerHex = is_lower_hex
member_of Entry = is_entry_byte
