-- Which line may stand after which lines, and document 01's table, 3 to 13: which number is given exactly when. Said of
-- the lines, with nothing of the reading in it; `Exactly` proves that the reading keeps to it.
use Rattle.std.specs.Prelude.{ℕ, ◌≡◌, List, [], ◌∷◌, ◌++◌}
use Rattle.text.specs.Relations.{Each, Any}
use Rattle.text.specs.Occurrences.{First, Everywhere, FirstBad, AtLeast}
use Rattle.text.specs.declared.Dialect.{Dialect}
use Rattle.kinds.specs.Typed.{Typed}
use Rattle.kinds.specs.ValueRules.{ValueIs, WholeText}
use Rattle.kinds.specs.declared.Kind.{Kind}
use Rattle.lines.specs.Lines.{Line, blank, comment, header, setting, broken}
use Rattle.lines.specs.declared.Break.{Break}
use Rattle.lines.specs.declared.Break.TheVariants as B
use Rattle.rules.specs.GroupKeys.{GroupIs, KeyIs}
use Rattle.rules.specs.declared.Group.{Group}
use Rattle.rules.specs.declared.Group.TheVariants.{Service}
use Rattle.rules.specs.declared.Refusal.{Refusal}
use Rattle.rules.specs.declared.Refusal.TheVariants as R

-- ---- one line

-- the line is a header, and its name is so
abbrev pub HeaderThat : (List ℕ → Type 0) → Line → Type 0
HeaderThat P blank = ⊥
HeaderThat P comment = ⊥
HeaderThat P (header name) = P name
HeaderThat P (setting key value) = ⊥
HeaderThat P (broken b) = ⊥

-- the line is a setting, and its key and value are so
abbrev pub SettingThat : (List ℕ → List ℕ → Type 0) → Line → Type 0
SettingThat P blank = ⊥
SettingThat P comment = ⊥
SettingThat P (header name) = ⊥
SettingThat P (setting key value) = P key value
SettingThat P (broken b) = ⊥

-- the line is none of the four things, and why
abbrev pub BrokenAs : Break → Line → Type 0
BrokenAs b blank = ⊥
BrokenAs b comment = ⊥
BrokenAs b (header name) = ⊥
BrokenAs b (setting key value) = ⊥
BrokenAs b (broken c) = c ≡ b

-- the line is a header; it names the group; it is the header of a service
abbrev pub IsHeader : Line → Type 0
IsHeader l = HeaderThat (λ name. Unit) l

abbrev pub NamesGroup : List ℕ → Line → Type 0
NamesGroup name l = HeaderThat (λ n. name ≡ n) l

abbrev pub ServiceHeader : Dialect → Line → Type 0
ServiceHeader d l = HeaderThat (λ name. GroupIs d name Service) l

-- the line is a setting; it gives the key
abbrev pub IsSetting : Line → Type 0
IsSetting l = SettingThat (λ key value. Unit) l

abbrev pub GivesKey : List ℕ → Line → Type 0
GivesKey key l = SettingThat (λ k value. key ≡ k) l

-- ---- what a line may be, after the lines before it

-- the group in which the next line stands: the last header names it, and since then no line is a header
pub record Here (d : Dialect) (before : List Line) : Type 0 where
  pub earlier : List Line
  pub name : List ℕ
  pub since : List Line
  pub is : before ≡ earlier ++ header name ∷ since
  pub latest : Each (λ l. ¬ IsHeader l) since
  pub group : Group
  pub named : GroupIs d name group

-- the key is listed for that group, with its kind
pub record KeyHere (d : Dialect) (before : List Line) (key : List ℕ) : Type 0 where
  pub here : Here d before
  pub kind : Kind
  pub listed : KeyIs here.group key kind

-- "at most 8 such": eight services or more stand before
abbrev pub EightServices : Dialect → List Line → Type 0
EightServices d before = AtLeast 8 (ServiceHeader d) before

-- a header names a listed group that no line before it names; of services there are at most eight
pub record AllowedHeader (d : Dialect) (before : List Line) (name : List ℕ) : Type 0 where
  pub group : Group
  pub listed : GroupIs d name group
  pub once : ¬ Any (NamesGroup name) before
  pub few : ¬ (GroupIs d name Service × EightServices d before)

-- a setting's key is listed for its group and was not given in it; its text is whole, and its value of the key's kind
pub record AllowedSetting (d : Dialect) (before : List Line) (key value : List ℕ) : Type 0 where
  pub place : KeyHere d before key
  pub once : ¬ Any (GivesKey key) place.here.since
  pub text : WholeText place.kind value
  pub typed : Typed
  pub good : ValueIs d place.kind value typed

-- "Each good line is one of four things: blank, comment, header, or a setting"
abbrev pub Allowed : Dialect → List Line → Line → Type 0
Allowed d before blank = Unit
Allowed d before comment = Unit
Allowed d before (header name) = AllowedHeader d before name
Allowed d before (setting key value) = AllowedSetting d before key value
Allowed d before (broken b) = ⊥

-- ---- 01's table: "Given exactly when"; "that line"

-- the row of a number, of a line after the lines before it
abbrev pub RowApplies : Dialect → List Line → Line → Refusal → Type 0
-- 3: "line does not start with `[` and is not blank, comment or setting"
RowApplies d before l R.Unrecognized = BrokenAs B.Unrecognized l
-- 4: "iwd: line starts with `[@`"
RowApplies d before l R.Extension = BrokenAs B.Extension l
-- 5: "line starts with `[` but is no header"
RowApplies d before l R.BadHeader = BrokenAs B.BadHeader l
-- 6: "unknown group"
RowApplies d before l R.UnknownGroup = HeaderThat (λ name. (g : Group) → ¬ GroupIs d name g) l
-- 7: "group named a second time"
RowApplies d before l R.RepeatedGroup = HeaderThat (λ name. Any (NamesGroup name) before) l
-- 8: "setting before any group"
RowApplies d before l R.NoGroup = SettingThat (λ key value. Each (λ b. ¬ IsHeader b) before) l
-- 9: "key not listed for its group"
RowApplies d before l R.UnknownKey =
    SettingThat (λ key value. (x : Here d before) × ((kind : Kind) → ¬ KeyIs x.group key kind)) l
-- 10: "key a second time in its group"
RowApplies d before l R.RepeatedKey =
    SettingThat (λ key value. (x : Here d before) × Any (GivesKey key) x.since) l
-- 11: "value text broken"
RowApplies d before l R.ValueText =
    SettingThat (λ key value. (x : KeyHere d before key) × (¬ WholeText x.kind value)) l
-- 12: "value breaks its kind"
RowApplies d before l R.ValueKind =
    SettingThat (λ key value. (x : KeyHere d before key) × ((t : Typed) → ¬ ValueIs d x.kind value t)) l
-- 13: "ninth service group"
RowApplies d before l R.ManyServices = HeaderThat (λ name. GroupIs d name Service × EightServices d before) l
-- the other numbers are given of no line
RowApplies d before l R.Size = ⊥
RowApplies d before l R.FileName = ⊥
RowApplies d before l R.Missing = ⊥
RowApplies d before l R.Contradiction = ⊥
RowApplies d before l R.NoPlace = ⊥
RowApplies d before l R.ShortBuffer = ⊥
RowApplies d before l R.NoService = ⊥
RowApplies d before l R.Malformed = ⊥

-- "one starting with `[`: 4, 5, 6, 7, 13; any other: 3, 8, 9, 10, 11, 12"
abbrev pub bracket_rows : List Refusal
bracket_rows = R.Extension ∷ R.BadHeader ∷ R.UnknownGroup ∷ R.RepeatedGroup ∷ R.ManyServices ∷ []

abbrev pub other_rows : List Refusal
other_rows = R.Unrecognized ∷ R.NoGroup ∷ R.UnknownKey ∷ R.RepeatedKey ∷ R.ValueText ∷ R.ValueKind ∷ []

abbrev pub line_rows : Line → List Refusal
line_rows blank = other_rows
line_rows comment = other_rows
line_rows (header name) = bracket_rows
line_rows (setting key value) = other_rows
line_rows (broken B.Unrecognized) = other_rows
line_rows (broken B.Extension) = bracket_rows
line_rows (broken B.BadHeader) = bracket_rows

-- "first that applies"
abbrev pub FirstRow : Dialect → List Line → Line → Refusal → Type 0
FirstRow d before l r = First (RowApplies d before l) (line_rows l) r

-- ---- all lines of a file

-- each line is allowed after the lines before it
abbrev pub LinesAllowed : Dialect → List Line → Type 0
LinesAllowed d ls = Everywhere (λ before l rest. Allowed d before l) ls

-- "the first faulty line", and its number: "Lines count from 1"
abbrev pub FaultyLine : Dialect → List Line → Refusal → ℕ → Type 0
FaultyLine d ls r n = FirstBad (λ before l rest. Allowed d before l) (λ before l rest q. FirstRow d before l q) ls r n
