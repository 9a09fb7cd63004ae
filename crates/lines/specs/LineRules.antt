-- "Lines, alike in both": what a line is, said of its bytes. `LineRuleLaws` proves that `line_of` keeps to it.
use Rattle.std.specs.Prelude.{ℕ, ◌≡◌, true, false, List, [], ◌∷◌, ◌++◌}
use Prim.Native.String.{String}
use Rattle.text.specs.Bytes.{in_line, is_blank, is_header_byte, is_key_byte}
use Rattle.text.specs.Parts.{all}
use Rattle.text.specs.Words.{word}
use Rattle.text.specs.Relations.{Pairwise}
use Rattle.text.specs.declared.Dialect.{Dialect}
use Rattle.text.specs.declared.Dialect.TheVariants.{Iwd, ConnMan}
use Rattle.lines.specs.Lines.{Line, blank, comment, header, setting, broken}
use Rattle.lines.specs.declared.Break.TheVariants.{Unrecognized, Extension, BadHeader}

-- "A line ends at byte 10 or at the end of the file; nothing after the last byte 10 is no line."
pub data LinesOf : List ℕ → List (List ℕ) → Type 0 where
  no_line : LinesOf [] []
  ended_line : (l rest : List ℕ) {ls : List (List ℕ)} →
      all in_line l ≡ true → LinesOf rest ls → LinesOf (l ++ 10 ∷ rest) (l ∷ ls)
  last_line : (l : List ℕ) → all in_line l ≡ true → ¬ (l ≡ []) → LinesOf l (l ∷ [])

-- "Whitespace is space and tab (house)."
abbrev pub Whitespace : List ℕ → Type 0
Whitespace s = all is_blank s ≡ true

-- "Leading whitespace is dropped": the line is whitespace, and then s
pub record Indented (s line : List ℕ) : Type 0 where
  pub indent : List ℕ
  pub white : Whitespace indent
  pub is : line ≡ indent ++ s

-- what the line starts with, once its leading whitespace is dropped
abbrev pub StartsWith : String → List ℕ → Type 0
StartsWith w line = (rest : List ℕ) × Indented (word w ++ rest) line

-- "a comment being one whose first byte then is `#`"
abbrev pub CommentLine : List ℕ → Type 0
CommentLine line = StartsWith "#" line

-- "A header is `[`, one or more bytes 32 to 126 other than `[` and `]`, then `]`, then only whitespace."
pub record HeaderLine (name line : List ℕ) : Type 0 where
  pub trail : List ℕ
  pub some : ¬ (name ≡ [])
  pub bytes : all is_header_byte name ≡ true
  pub white : Whitespace trail
  pub is : Indented (word "[" ++ (name ++ (word "]" ++ trail))) line

-- "iwd: line starts with `[@`"
abbrev pub ExtensionLine : Dialect → List ℕ → Type 0
ExtensionLine Iwd line = StartsWith "[@" line
ExtensionLine ConnMan line = ⊥

-- a text whose first byte, if it has one, is no whitespace; a text whose last byte is none
abbrev pub NoLeadingBlank : List ℕ → Type 0
NoLeadingBlank [] = Unit
NoLeadingBlank (c ∷ s) = is_blank c ≡ false

abbrev pub NoTrailingBlank : List ℕ → Type 0
NoTrailingBlank v = (s : List ℕ) (c : ℕ) → v ≡ s ++ (c ∷ []) → is_blank c ≡ false

-- "trailing whitespace dropped": s is v and then whitespace, and v ends with none
pub record Trimmed (v s : List ℕ) : Type 0 where
  pub trail : List ℕ
  pub white : Whitespace trail
  pub is : s ≡ v ++ trail
  pub closed : NoTrailingBlank v

-- "value ends": in iwd "at line end, trailing blanks kept", in ConnMan "trailing whitespace dropped"
abbrev pub ValueEnds : Dialect → List ℕ → List ℕ → Type 0
ValueEnds Iwd v rest = v ≡ rest
ValueEnds ConnMan v rest = Trimmed v rest

-- "A setting is a key of one or more bytes, optional whitespace, `=`, optional whitespace, and the value."
pub record SettingLine (d : Dialect) (key value line : List ℕ) : Type 0 where
  pub gap : List ℕ
  pub next : List ℕ
  pub rest : List ℕ
  pub some : ¬ (key ≡ [])
  pub bytes : all (is_key_byte d) key ≡ true
  pub gap_white : Whitespace gap
  pub next_white : Whitespace next
  pub tight : NoLeadingBlank rest
  pub is : Indented (key ++ (gap ++ (word "=" ++ (next ++ rest)))) line
  pub ends : ValueEnds d value rest

-- which line is what: "Each good line is one of four things: blank, comment, header, or a setting"; else 3, 4 or 5
abbrev pub LineReads : Dialect → List ℕ → Line → Type 0
LineReads d line blank = Whitespace line
LineReads d line comment = CommentLine line
LineReads d line (header name) = HeaderLine name line × (¬ ExtensionLine d line)
LineReads d line (setting key value) = SettingLine d key value line
-- 3: "line does not start with `[` and is not blank, comment or setting"
LineReads d line (broken Unrecognized) =
    (¬ StartsWith "[" line)
    × (¬ Whitespace line)
    × (¬ CommentLine line)
    × ((key value : List ℕ) → ¬ SettingLine d key value line)
-- 4: "iwd: line starts with `[@`"
LineReads d line (broken Extension) = ExtensionLine d line
-- 5: "line starts with `[` but is no header"
LineReads d line (broken BadHeader) =
    StartsWith "[" line × (¬ ExtensionLine d line) × ((name : List ℕ) → ¬ HeaderLine name line)

-- the lines of a file, each as what it is
pub record FileLines (d : Dialect) (file : List ℕ) (ls : List Line) : Type 0 where
  pub texts : List (List ℕ)
  pub split : LinesOf file texts
  pub each : Pairwise (LineReads d) texts ls
