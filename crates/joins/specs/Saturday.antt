-- "A faulty Passphrase line treated as absent, so the service reads as open": what is said of such a line, wherever it
-- stands in a file of either kind, and of a good one. That it holds is shown in SaturdayHolds; of the move, in `mover`.
use Rattle.std.specs.Prelude.{ℕ, suc, ◌≤◌, ◌≡◌, true, false, List, ◌∷◌, ◌++◌, length, Some}
use Rattle.text.specs.Parts.{lines}
use Rattle.text.specs.Words.{word}
use Rattle.text.specs.Relations.{Sized}
use Rattle.text.specs.declared.Dialect.{Dialect}
use Rattle.utf8.specs.Utf8.{value_text}
use Rattle.escapes.specs.StringRules.{Unescaped}
use Rattle.lines.specs.Lines.{setting, line_of}
use Rattle.kinds.specs.Kinds as K
use Rattle.rules.specs.Sections.{Entry}
use Rattle.rules.specs.Reading.{reading}
use Rattle.rules.specs.declared.Refusal.{Refusal}
use Rattle.records.specs.Record.{Join, passphrase}
use Rattle.joins.specs.Joins.{needs_key}
use Rattle.rules.specs.Answering.{refused_at}

-- ---- a faulty Passphrase line

-- broken text, a bad escape, or not 8 to 63 bytes once unescaped, by the rules as they are said of the bytes
pub data NoPassphrase (v : List ℕ) : Type 0 where
  broken_text_lem : value_text v ≡ false → NoPassphrase v
  bad_escape : ((t : List ℕ) → Unescaped v t → ⊥) → NoPassphrase v
  wrong_size : {t : List ℕ} → Unescaped v t → (Sized 8 63 t → ⊥) → NoPassphrase v

-- line n of a file
pub record LineAt (file : List ℕ) (n : ℕ) (l : List ℕ) : Type 0 where
  pub before : List (List ℕ)
  pub rest : List (List ℕ)
  pub is : lines file ≡ before ++ l ∷ rest
  pub number : n ≡ suc (length before)

pub record FaultyPassphrase (d : Dialect) (file : List ℕ) (n : ℕ) : Type 0 where
  pub line : List ℕ
  pub stands : LineAt file n line
  pub value : List ℕ
  pub reads : line_of d line ≡ setting (word "Passphrase") value
  pub faulty : NoPassphrase value

-- ---- what is answered

-- a refusal, that of this line or of one before it, or line 0 where the size or the name is refused; what every entry point
-- then answers is said in `record_answers`
pub record RefusedBy (d : Dialect) (name file : List ℕ) (n : ℕ) : Type 0 where
  pub refusal : Refusal
  pub line : ℕ
  pub is : reading d name file ≡ refused_at refusal line
  pub early : line ≤ n

-- ---- a good Passphrase line

-- the bytes that a passphrase reads as
pub record PassphraseRead (v : List ℕ) : Type 0 where
  pub bytes : List ℕ
  pub is : K.passphrase v ≡ Some bytes

-- the credential is that passphrase
pub record PassphraseKept (e : Entry) (j : Join) : Type 0 where
  pub read : PassphraseRead e.value
  pub is : j.credential ≡ passphrase read.bytes
  pub needed : needs_key j ≡ true
