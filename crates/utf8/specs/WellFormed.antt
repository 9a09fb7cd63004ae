-- "UTF-8 is the Unicode standard's well-formed UTF-8": its table 3-7 row by row. `WellFormedLaws` shows that `utf8`
-- keeps to it.
use Rattle.std.specs.Prelude.{ℕ, ◌≤◌, List, [], ◌∷◌, ◌++◌}
use Rattle.text.specs.Relations.{Any, Pairwise}
use Rattle.utf8.specs.Utf8.{Range, ◌to◌}

-- table 3-7, "Well-Formed UTF-8 Byte Sequences": for each row the ranges of its first, second, third and fourth bytes
abbrev pub byte_sequences : List (List Range)
byte_sequences =
    (0x00 to 0x7F ∷ [])
    ∷ (0xC2 to 0xDF ∷ 0x80 to 0xBF ∷ [])
    ∷ (0xE0 to 0xE0 ∷ 0xA0 to 0xBF ∷ 0x80 to 0xBF ∷ [])
    ∷ (0xE1 to 0xEC ∷ 0x80 to 0xBF ∷ 0x80 to 0xBF ∷ [])
    ∷ (0xED to 0xED ∷ 0x80 to 0x9F ∷ 0x80 to 0xBF ∷ [])
    ∷ (0xEE to 0xEF ∷ 0x80 to 0xBF ∷ 0x80 to 0xBF ∷ [])
    ∷ (0xF0 to 0xF0 ∷ 0x90 to 0xBF ∷ 0x80 to 0xBF ∷ 0x80 to 0xBF ∷ [])
    ∷ (0xF1 to 0xF3 ∷ 0x80 to 0xBF ∷ 0x80 to 0xBF ∷ 0x80 to 0xBF ∷ [])
    ∷ (0xF4 to 0xF4 ∷ 0x80 to 0x8F ∷ 0x80 to 0xBF ∷ 0x80 to 0xBF ∷ [])
    ∷ []

-- a byte of a range
pub record InRange (r : Range) (b : ℕ) : Type 0 where
  pub least : r.low ≤ b
  pub most : b ≤ r.high

-- the bytes of one character: each of the range at its place in a row of the table
abbrev pub Character : List ℕ → Type 0
Character bytes = Any (λ row. Pairwise InRange row bytes) byte_sequences

-- well-formed: nothing but characters, one after the other
pub data WellFormedUtf8 : List ℕ → Type 0 where
  no_more : WellFormedUtf8 []
  character : (bytes : List ℕ) {rest : List ℕ} → Character bytes → WellFormedUtf8 rest → WellFormedUtf8 (bytes ++ rest)
