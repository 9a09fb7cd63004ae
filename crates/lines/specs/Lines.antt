-- What one line is, as document 01 says it under "Lines, alike in both".
use Rattle.std.specs.Prelude.{ℕ, ◌-◌, Bool, false, cond, not, ◌&&◌, List, [], ◌∷◌, eqb, length, drop}
use Rattle.text.specs.Bytes.{is_blank, is_header_byte, is_key_byte}
use Rattle.text.specs.Parts.{front, after, all, empty, trimmed}
use Rattle.text.specs.declared.Dialect.{Dialect}
use Rattle.text.specs.declared.Dialect.TheVariants.{Iwd, ConnMan}
use Rattle.lines.specs.declared.Break.{Break}
use Rattle.lines.specs.declared.Break.TheVariants.{Unrecognized, Extension, BadHeader}

-- "Each good line is one of four things: blank, comment, header, or a setting"; a line that is none of them breaks a rule.
pub data Line : Type 0 where
  blank : Line
  comment : Line
  header : List ℕ → Line
  setting : List ℕ → List ℕ → Line
  broken : Break → Line

-- "iwd: line starts with `[@`", by what stands behind the `[`
abbrev pub begins : ℕ → List ℕ → Bool
begins b [] = false
begins b (c ∷ s) = eqb c b

abbrev pub extends : Dialect → List ℕ → Bool
extends Iwd s = begins 64 s
extends ConnMan s = false

-- "A header is `[`, one or more bytes 32 to 126 other than `[` and `]`, then `]`, then only whitespace."
abbrev pub closed : List ℕ → Bool
closed [] = false
closed (c ∷ s) = eqb c 93 && all is_blank s

abbrev pub header_of : List ℕ → List ℕ → Line
header_of name rest = cond (not (empty name) && closed rest) (header name) (broken BadHeader)

unfoldable pub bracket_of : Dialect → List ℕ → Line
bracket_of d s = cond (extends d s) (broken Extension) (header_of (front is_header_byte s) (after is_header_byte s))

-- "value ends": in iwd "at line end, trailing blanks kept", in ConnMan "trailing whitespace dropped"
abbrev pub ended : Dialect → List ℕ → List ℕ
ended Iwd v = v
ended ConnMan v = trimmed v

-- "A setting is a key of one or more bytes, optional whitespace, `=`, optional whitespace, and the value."
abbrev pub equal_of : Dialect → List ℕ → List ℕ → Line
equal_of d key [] = broken Unrecognized
equal_of d key (c ∷ s) = cond (not (empty key) && eqb c 61) (setting key (ended d (after is_blank s))) (broken Unrecognized)

-- what stands behind the key, its whitespace, one byte and the whitespace after it: of a setting its value, up to the line's end
abbrev pub behind_equal : Dialect → List ℕ → List ℕ
behind_equal d s = after is_blank (drop 1 (after is_blank (after (is_key_byte d) s)))

unfoldable pub setting_of : Dialect → List ℕ → Line
setting_of d s = equal_of d (front (is_key_byte d) s) (after is_blank (after (is_key_byte d) s))

-- a line whose leading whitespace is dropped: "a comment being one whose first byte then is `#`"
abbrev pub body_of : Dialect → List ℕ → Line
body_of d [] = blank
body_of d (c ∷ s) = cond (eqb c 35) comment (cond (eqb c 91) (bracket_of d s) (setting_of d (c ∷ s)))

-- "Leading whitespace is dropped"
unfoldable pub line_of : Dialect → List ℕ → Line
line_of d l = body_of d (after is_blank l)

-- where a setting's value starts in its line
unfoldable pub value_start : Dialect → List ℕ → ℕ
value_start d l = length l - length (behind_equal d (after is_blank l))
