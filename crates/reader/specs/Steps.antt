-- What one line does: its fault after groups which the state and the table hold, and what they hold after a good one.
use Rattle.std.specs.Prelude.{ℕ, ◌+◌, ◌≡◌, true, false, List, length, None, Some, Result, Ok, Err}
use Rattle.text.specs.Parts.{part_at, Inside}
use Rattle.text.specs.declared.Dialect.{Dialect}
use Rattle.text.specs.declared.Place.{Place}
use Rattle.lines.specs.Lines.{blank, comment, setting, line_of, value_start}
use Rattle.lines.specs.Lines as Lines
use Rattle.kinds.specs.declared.Value.{Value}
use Rattle.rules.specs.Sections.{Section, serves, with_line}
use Rattle.rules.specs.Faults.{fault}
use Rattle.rules.specs.declared.Group.{Group}
use Rattle.rules.specs.declared.Refusal.{Refusal}
use Rattle.places.specs.Store.{Slot, stored}
use Rattle.places.specs.History.{base, name_base, current_of}
use Rattle.places.specs.Holds.{RowsKeep, HoldsGroups}
use Rattle.reader.specs.Says.{NewSetting}
use Rattle.places.specs.declared.Current.{Current}
use Rattle.places.specs.declared.Current.TheVariants.{In}
use Rattle.places.specs.declared.State.{State}
use Rattle.reader.specs.declared.Line.{Line}
use Rattle.reader.specs.declared.Line.TheVariants.{Blank, Comment, Header, Setting}

-- ---- what the line l is, which starts at s in the file

-- a good setting: its value, which stands at a place of the file, is v, and i is its key's slot
pub record GoodSetting (d : Dialect) (file : List ℕ) (gs : List Section) (s : ℕ) (l : List ℕ) (i : ℕ) (v : Value)
    : Type 0 where
  pub key : List ℕ
  pub place : Place
  pub is : line_of d l ≡ setting key (part_at file place)
  pub good : fault d gs (line_of d l) ≡ None
  pub new : NewSetting d gs key (part_at file place) i place v
  pub inside : Inside (length file) place
  pub starts : place.start ≡ s + value_start d l

abbrev pub LineIs : Dialect → List ℕ → List Section → ℕ → List ℕ → Result Line Refusal → Type 0
LineIs d file gs s l (Ok Blank) = line_of d l ≡ blank
LineIs d file gs s l (Ok Comment) = line_of d l ≡ comment
LineIs d file gs s l (Ok (Header p)) = (line_of d l ≡ Lines.header (part_at file p)) × Inside (length file) p
LineIs d file gs s l (Ok (Setting i v)) = GoodSetting d file gs s l i v
LineIs d file gs s l (Err r) = fault d gs (line_of d l) ≡ Some r

pub record LineSays (d : Dialect) (file x : List ℕ) (c : Current) (s : ℕ) (l : List ℕ) (r : Result Line Refusal) : Type 0 where
  pub says : (gs : List Section) → c ≡ current_of gs → RowsKeep d file x gs → LineIs d file gs s l r

-- ---- a good header, at s in the file, with its name at p, on line l

abbrev pub header_slot : ℕ → ℕ → Slot
header_slot s l = record { start = s; end = s; line = l; code = 0 }

abbrev pub name_slot : Place → ℕ → Slot
name_slot p l = record { start = p.start; end = p.end; line = l; code = 0 }

pub record Opened (st : State) (x : List ℕ) (g : Group) (s : ℕ) (p : Place) (l : ℕ) (r : State) (y : List ℕ)
    : Type 0 where
  pub plain : serves g ≡ false
      → (y ≡ stored (base g st.services) (header_slot s l) x)
      × (r ≡ record { current = In g (base g st.services); services = st.services; settings = st.settings })
  pub service : serves g ≡ true
      → (y ≡ stored (name_base + st.services) (name_slot p l) (stored (base g (st.services + 1)) (header_slot s l) x))
      × (r ≡ record { current = In g (base g (st.services + 1)); services = st.services + 1; settings = st.settings })

-- ---- a line p, whose number is n, which starts at s and in which a value starts at v

-- groups for which the state and the table hold
pub record Known (d : Dialect) (file : List ℕ) (st : State) (x : List ℕ) : Type 0 where
  pub groups : List Section
  pub holds : HoldsGroups d file st x groups

abbrev pub StepIs : Dialect → List ℕ → List Section → ℕ → ℕ → ℕ → Lines.Line → List ℕ → Result State Refusal → Type 0
StepIs d file gs n s v p y (Ok st) = (fault d gs p ≡ None) × HoldsGroups d file st y (with_line d n s v p gs)
StepIs d file gs n s v p y (Err r) = fault d gs p ≡ Some r

pub record StepSays (d : Dialect) (file : List ℕ) (st : State) (x : List ℕ) (n s v : ℕ) (p : Lines.Line)
    (y : List ℕ) (r : Result State Refusal) : Type 0 where
  pub says : (gs : List Section) → HoldsGroups d file st x gs → StepIs d file gs n s v p y r
