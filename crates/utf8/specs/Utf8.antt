-- Well-formed UTF-8, "the Unicode standard's", as its table 3-7 gives it: no overlong form, no surrogate, nothing above U+10FFFF.
use Rattle.std.specs.Prelude.{ℕ, Bool, true, false, cond, not, ◌&&◌, List, [], ◌∷◌, eqb}
use Rattle.text.specs.Bytes.{between, other}
use Rattle.text.specs.Parts.{all}

-- a range of bytes, first and last
pub record Range : Type 0 where
  pub low : ℕ
  pub high : ℕ

infixl 70 ◌to◌
abbrev pub ◌to◌ : ℕ → ℕ → Range
a to b = record { low = a; high = b }

-- the ranges of the bytes that follow a first byte: the rows of table 3-7, and a range that holds nothing for a byte that is first in no row
unfoldable pub follow : ℕ → List Range
follow b =
    cond (between 0 127 b) []
    (cond (between 194 223 b) (128 to 191 ∷ [])
    (cond (between 224 224 b) (160 to 191 ∷ 128 to 191 ∷ [])
    (cond (between 225 236 b) (128 to 191 ∷ 128 to 191 ∷ [])
    (cond (between 237 237 b) (128 to 159 ∷ 128 to 191 ∷ [])
    (cond (between 238 239 b) (128 to 191 ∷ 128 to 191 ∷ [])
    (cond (between 240 240 b) (144 to 191 ∷ 128 to 191 ∷ 128 to 191 ∷ [])
    (cond (between 241 243 b) (128 to 191 ∷ 128 to 191 ∷ 128 to 191 ∷ [])
    (cond (between 244 244 b) (128 to 143 ∷ 128 to 191 ∷ 128 to 191 ∷ [])
    (1 to 0 ∷ [])))))))))

-- the bytes of these ranges, and then sequences of the table, whole
unfoldable pub utf8_from : List Range → List ℕ → Bool
utf8_from [] [] = true
utf8_from (r ∷ rs) [] = false
utf8_from [] (b ∷ s) = utf8_from (follow b) s
utf8_from (r ∷ rs) (b ∷ s) = between r.low r.high b && utf8_from rs s

abbrev pub utf8 : List ℕ → Bool
utf8 s = utf8_from [] s

-- a byte of a text, which may have to stand on a line
abbrev pub text_byte : Bool → ℕ → Bool
text_byte line b = other 0 b && not (line && eqb b 13)

unfoldable pub text : Bool → List ℕ → Bool
text line s = all (text_byte line) s && utf8 s

-- "Value text is broken (11) if it is not UTF-8, holds byte 0 or byte 13"
abbrev pub value_text : List ℕ → Bool
value_text s = text true s

-- "Passphrase and domain are UTF-8 without byte 0."
abbrev pub record_text : List ℕ → Bool
record_text s = text false s
