-- A line by the places in it: which form the code answers, as a definition, and what its private steps answer.
use Rattle.std.specs.Prelude.{ℕ, ◌+◌, ◌≤◌, ◌≡◌, Bool, List, length, drop, Result, Ok, Err}
use Rattle.text.specs.Bytes.{is_blank, is_header_byte, is_key_byte}
use Rattle.text.specs.Parts.{lead, part}
use Rattle.text.specs.declared.Dialect.{Dialect}
use Rattle.text.specs.declared.Place.{Place}
use Rattle.lines.specs.Lines.{Line, blank, comment, header, setting, broken, extends, ended, line_of}
use Rattle.lines.specs.declared.Break.{Break}
use Rattle.lines.specs.declared.Form.{Form}
use Rattle.lines.specs.declared.Form.TheVariants.{Blank, Comment, Header, Setting}

-- where the run of bytes p that starts at i ends, and its place
abbrev pub run_end : (ℕ → Bool) → List ℕ → ℕ → ℕ
run_end p l i = i + lead p (drop i l)

abbrev pub run_at : (ℕ → Bool) → List ℕ → ℕ → Place
run_at p l i = record { start = i; end = run_end p l i }

-- "optional whitespace, `=`, optional whitespace, and the value", behind a key that ends at k
abbrev pub value_from : List ℕ → ℕ → ℕ
value_from l k = run_end is_blank l (run_end is_blank l k + 1)

-- the place of the value that starts at v
abbrev pub value_place : Dialect → List ℕ → ℕ → Place
value_place d l v = record { start = v; end = v + length (ended d (drop v l)) }

-- what a line is, by places in l, where its first byte that is no blank is at i: a header's name stands behind its
-- `[`, a setting's key at i, and its value behind the `=` and its whitespace
abbrev pub form_in : Dialect → List ℕ → ℕ → Line → Result Form Break
form_in d l i blank = Ok Blank
form_in d l i comment = Ok Comment
form_in d l i (header name) = Ok (Header (run_at is_header_byte l (i + 1)))
form_in d l i (setting key value) =
    Ok (Setting (run_at (is_key_byte d) l i) (value_place d l (value_from l (run_end (is_key_byte d) l i))))
form_in d l i (broken b) = Err b

-- the form of the line l, or which rule it breaks
unfoldable pub form_at : Dialect → List ℕ → Result Form Break
form_at d l = form_in d l (lead is_blank l) (line_of d l)

-- ---- the answers of the steps

-- whether what stands behind a bracket, from from on, begins an extension
pub record Begins (d : Dialect) (l : List ℕ) (from : ℕ) (r : Bool) : Type 0 where
  pub is : r ≡ extends d (drop from l)

-- the end of a value
pub record ValueEnd (d : Dialect) (l : List ℕ) (from e : ℕ) : Type 0 where
  pub low : from ≤ e
  pub within : e ≤ length l
  pub is : part from e l ≡ ended d (drop from l)
