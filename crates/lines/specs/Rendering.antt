-- How lines are written.
use Rattle.std.specs.Prelude.{ℕ, ◌≡◌, true, false, List, [], ◌∷◌, ◌++◌}
use Rattle.text.specs.Bytes.{in_line, is_blank, is_header_byte, is_key_byte}
use Rattle.text.specs.Parts.{all, after, empty}
use Rattle.text.specs.declared.Dialect.{Dialect}
use Rattle.text.specs.declared.Dialect.TheVariants.{Iwd, ConnMan}
use Rattle.lines.specs.Lines.{Line, blank, comment, header, setting, broken, extends, ended}

-- between a key and its value: iwd's files are written without blanks, ConnMan's with
abbrev pub equals : Dialect → List ℕ
equals Iwd = 61 ∷ []
equals ConnMan = 32 ∷ 61 ∷ 32 ∷ []

-- a line without its byte 10; a broken line is never written
abbrev pub render : Dialect → Line → List ℕ
render d blank = []
render d comment = 35 ∷ []
render d (header name) = 91 ∷ (name ++ 93 ∷ [])
render d (setting key value) = key ++ (equals d ++ value)
render d (broken b) = []

-- lines, "every line ends with byte 10"
abbrev pub rendered : Dialect → List Line → List ℕ
rendered d [] = []
rendered d (l ∷ ls) = render d l ++ 10 ∷ rendered d ls

-- what a header and a setting must be to be written as a line
pub record HeaderText (d : Dialect) (name : List ℕ) : Type 0 where
  pub some : empty name ≡ false
  pub bytes : all is_header_byte name ≡ true
  pub plain : extends d name ≡ false

pub record SettingText (d : Dialect) (key value : List ℕ) : Type 0 where
  pub some : empty key ≡ false
  pub bytes : all (is_key_byte d) key ≡ true
  pub line : all in_line value ≡ true
  pub start : after is_blank value ≡ value
  pub end : ended d value ≡ value

abbrev pub WritableLine : Dialect → Line → Type 0
WritableLine d blank = Unit
WritableLine d comment = Unit
WritableLine d (header name) = HeaderText d name
WritableLine d (setting key value) = SettingText d key value
WritableLine d (broken b) = ⊥

abbrev pub WritableLines : Dialect → List Line → Type 0
WritableLines d [] = Unit
WritableLines d (l ∷ ls) = WritableLine d l × WritableLines d ls
