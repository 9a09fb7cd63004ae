-- What the code's answers on a line say of it, after groups gs for which the table of places holds.
use Rattle.std.specs.Prelude.{ℕ, ◌+◌, ◌≤◌, ◌≡◌, List, length, None, Some, Result, Ok, Err}
use Rattle.text.specs.Parts.{part_at}
use Rattle.text.specs.Words.{place}
use Rattle.text.specs.declared.Dialect.{Dialect}
use Rattle.text.specs.declared.Place.{Place}
use Rattle.lines.specs.Lines.{setting}
use Rattle.kinds.specs.Typed.{judged}
use Rattle.kinds.specs.Answers.{judgement_at}
use Rattle.kinds.specs.declared.Kind.{Kind}
use Rattle.kinds.specs.declared.Value.{Value}
use Rattle.rules.specs.Tables.{kind_of}
use Rattle.rules.specs.Faults.{fault}
use Rattle.rules.specs.Sections.{Section}
use Rattle.tables.specs.KeyPlaces.{key_names}
use Rattle.rules.specs.declared.Group.{Group}
use Rattle.rules.specs.declared.Refusal.{Refusal}
use Rattle.places.specs.History.{current_of}
use Rattle.places.specs.Holds.{RowsKeep}
use Rattle.places.specs.declared.Current.{Current}
use Rattle.places.specs.declared.Current.TheVariants.{In}
use Rattle.reader.specs.declared.Line.{Line}
use Rattle.reader.specs.declared.Line.TheVariants.{Blank, Comment, Header, Setting}
use Rattle.places.specs.Store.{table_length, last_row}

-- a good setting: its slot is that of its key in the group in force, and v is what its kind reads at p from the bytes b
pub record NewSetting (d : Dialect) (gs : List Section) (k b : List ℕ) (i : ℕ) (p : Place) (v : Value) : Type 0 where
  pub group : Group
  pub row : ℕ
  pub in_force_lem : current_of gs ≡ In group row
  pub listed : place k (key_names group) ≡ 0 → ⊥
  pub is : i ≡ row + place k (key_names group)
  pub kind : Kind
  pub of_kind : kind_of group k ≡ Some kind
  pub reads : judgement_at p (judged d kind b) ≡ Ok v

abbrev pub SettingIs : Dialect → List ℕ → List Section → Place → Place → Result Line Refusal → Type 0
SettingIs d file gs key value (Ok Blank) = ⊥
SettingIs d file gs key value (Ok Comment) = ⊥
SettingIs d file gs key value (Ok (Header p)) = ⊥
SettingIs d file gs key value (Ok (Setting i v)) =
    (fault d gs (setting (part_at file key) (part_at file value)) ≡ None)
    × NewSetting d gs (part_at file key) (part_at file value) i value v
SettingIs d file gs key value (Err r) = fault d gs (setting (part_at file key) (part_at file value)) ≡ Some r

-- the row of the group in force lies in the table
pub record CurrentRow (x : List ℕ) (c : Current) : Type 0 where
  pub long : length x ≡ table_length
  pub row : (g : Group) (b : ℕ) → c ≡ In g b → b ≤ last_row

pub record SettingSays (d : Dialect) (file x : List ℕ) (c : Current) (key value : Place) (r : Result Line Refusal) : Type 0 where
  pub says : (gs : List Section) → c ≡ current_of gs → RowsKeep d file x gs → SettingIs d file gs key value r
