-- The rules for a file, and the one answer that each input has by them: `Exactly` proves that the reading gives it.
use Rattle.std.specs.Prelude.{ℕ, ◌≤◌, ◌<◌, ◌≡◌, true, List, [], ◌++◌, length, Ok, Err}
use Rattle.text.specs.Bytes.{is_alphanumeric}
use Rattle.text.specs.Parts.{all}
use Rattle.text.specs.Words.{word}
use Rattle.text.specs.Occurrences.{Count}
use Rattle.text.specs.declared.Dialect.{Dialect}
use Rattle.text.specs.declared.Dialect.TheVariants.{Iwd, ConnMan}
use Rattle.lines.specs.Lines.{Line}
use Rattle.lines.specs.LineRules.{FileLines}
use Rattle.names.specs.Names.{NetworkName, file_name}
use Rattle.rules.specs.Reading.{Name, iwd_name, connman_file}
use Rattle.rules.specs.LineOrder.{IsSetting, ServiceHeader, LinesAllowed, FaultyLine}
use Rattle.rules.specs.GroupRules.{GroupsSound, FaultyGroup}
use Rattle.rules.specs.declared.Refusal.{Refusal}
use Rattle.rules.specs.declared.Refusal.TheVariants as R
use Rattle.rules.specs.Answering.{Reading}

-- "ConnMan: one or more letters or digits, then `.config`."
pub record ConnmanName (name : List ℕ) : Type 0 where
  pub base : List ℕ
  pub some : ¬ (base ≡ [])
  pub bytes : all is_alphanumeric base ≡ true
  pub is : name ≡ base ++ word ".config"

-- "iwd: a stem and `.open` or `.psk`", the stem being that of a network's name; ConnMan's as above
abbrev pub FileNamed : Dialect → List ℕ → Name → Type 0
FileNamed Iwd name (iwd_name s) = (n : List ℕ) × NetworkName n × (name ≡ file_name n s)
FileNamed Iwd name connman_file = ⊥
FileNamed ConnMan name (iwd_name s) = ⊥
FileNamed ConnMan name connman_file = ConnmanName name

-- 1 and 2 do not apply, and these are the file's lines
pub record Admitted (d : Dialect) (name file : List ℕ) (kind : Name) (ls : List Line) : Type 0 where
  pub size : length file ≤ 16384
  pub named : FileNamed d name kind
  pub lines : FileLines d file ls

-- 0: no line is faulty, and then no group; with "the number of setting lines and, for ConnMan, of services"
pub record AcceptedFile (d : Dialect) (name file : List ℕ) (n m : ℕ) : Type 0 where
  pub kind : Name
  pub ls : List Line
  pub admitted : Admitted d name file kind ls
  pub allowed : LinesAllowed d ls
  pub sound : GroupsSound d kind ls
  pub settings : Count IsSetting ls n
  pub services : Count (ServiceHeader d) ls m

-- 3 to 13: "then the first faulty line"
pub record RefusedAtLine (d : Dialect) (name file : List ℕ) (r : Refusal) (n : ℕ) : Type 0 where
  pub kind : Name
  pub ls : List Line
  pub admitted : Admitted d name file kind ls
  pub faulty : FaultyLine d ls r n

-- 14 and 15: "then each service in file order (iwd: the file)"
pub record RefusedAtGroup (d : Dialect) (name file : List ℕ) (r : Refusal) (n : ℕ) : Type 0 where
  pub kind : Name
  pub ls : List Line
  pub admitted : Admitted d name file kind ls
  pub allowed : LinesAllowed d ls
  pub faulty : FaultyGroup d kind ls r n

-- "Order: 1, 2; then the first faulty line ..; then each service in file order (iwd: the file)"
pub data RefusedFile (d : Dialect) (name file : List ℕ) : Refusal → ℕ → Type 0 where
  -- 1: "file over 16,384 bytes", line 0
  too_long : 16384 < length file → RefusedFile d name file R.Size 0
  -- 2: "file name breaks its rule", line 0
  misnamed : length file ≤ 16384 → ((kind : Name) → ¬ FileNamed d name kind) → RefusedFile d name file R.FileName 0
  at_line : {r : Refusal} {n : ℕ} → RefusedAtLine d name file r n → RefusedFile d name file r n
  at_group : {r : Refusal} {n : ℕ} → RefusedAtGroup d name file r n → RefusedFile d name file r n

-- the answer of an input
abbrev pub Answers : Dialect → List ℕ → List ℕ → Reading → Type 0
Answers d name file (Ok c) = AcceptedFile d name file c.settings c.services
Answers d name file (Err f) = RefusedFile d name file f.refusal f.line
