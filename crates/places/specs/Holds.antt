-- What the state and the table of places hold of the groups before a line.
use Rattle.std.specs.Prelude.{ℕ, zero, suc, ◌+◌, ◌≤◌, ◌<◌, ◌≡◌, Bool, true, false, ◌||◌, List, [], ◌∷◌, length, Option, None, Some}
use Rattle.text.specs.Parts.{part}
use Rattle.text.specs.Words.{same, place}
use Rattle.text.specs.declared.Dialect.{Dialect}
use Rattle.kinds.specs.Typed as T
use Rattle.kinds.specs.Typed.{Typed, judged, good}
use Rattle.kinds.specs.declared.Kind.{Kind}
use Rattle.kinds.specs.declared.Kind.TheVariants as K
use Rattle.rules.specs.Tables.{group_of, kind_of}
use Rattle.rules.specs.WordNumbers.{word_number}
use Rattle.rules.specs.Sections.{Entry, Section, name_given, services, entry_of, settings}
use Rattle.tables.specs.KeyPlaces.{key_names}
use Rattle.rules.specs.declared.Group.{Group}
use Rattle.rules.specs.declared.Group.TheVariants.{Service}
use Rattle.places.specs.Store.{table_length, Slot, slot, empty_slot}
use Rattle.places.specs.History.{base_at, OwnRow, name_base, group_at, current_of, latest, head_slot}
use Rattle.places.specs.declared.State.{State}

-- ---- the code of a value: what it is, where it is a yes or no, a mask or a word

abbrev pub flag_code : Bool → ℕ
flag_code false = 1
flag_code true = 2

abbrev pub code_of : Typed → ℕ
code_of (T.flag b) = flag_code b
code_of (T.mask_length n) = n
code_of (T.word w) = word_number w
code_of (T.address a) = 0
code_of (T.addresses l) = 0
code_of (T.entries l) = 0
code_of (T.addressing i) = 0
code_of (T.with_length w) = 0
code_of (T.bytes b) = 0

-- bytes are good, by their kind, and this is their code
pub record Coded (d : Dialect) (k : Option Kind) (v : List ℕ) (c : ℕ) : Type 0 where
  pub kind : Kind
  pub of_kind : k ≡ Some kind
  pub typed : Typed
  pub good : judged d kind v ≡ good typed
  pub is : c ≡ code_of typed

-- a text is kept by its place; a yes/no, a word and a mask are all that their code says
abbrev pub is_text : Kind → Bool
is_text K.Flag = false
is_text (K.Named w) = false
is_text K.Netmask = false
is_text K.Address = true
is_text K.Ipv4 = true
is_text K.Ipv6 = true
is_text K.Ipv6Address = true
is_text K.Ipv6WithLength = true
is_text (K.Addresses s) = true
is_text K.Entries = true
is_text K.Mac = true
is_text K.PreSharedKey = true
is_text K.Ssid = true
is_text K.Passphrase = true
is_text (K.Text low high) = true

abbrev pub OfText : Option Kind → Type 0
OfText None = ⊥
OfText (Some k) = is_text k ≡ true

-- a slot says where a setting's value stands, if it is a text, and what it is
pub record SlotSays (d : Dialect) (k : Option Kind) (file : List ℕ) (s : Slot) (x : Entry) : Type 0 where
  pub low : s.start ≤ s.end
  pub high : s.end ≤ length file
  pub value : OfText k → part s.start s.end file ≡ x.value
  pub start : OfText k → s.start ≡ x.start
  pub line : s.line ≡ x.line
  pub some : 0 < s.line
  pub code : Coded d k x.value s.code

abbrev pub SlotKeeps : Dialect → Option Kind → List ℕ → Slot → Option Entry → Type 0
SlotKeeps d k file s None = s ≡ empty_slot
SlotKeeps d k file s (Some x) = SlotSays d k file s x

-- a row from b on: of each key of the group g, by its place there, the setting among es
pub record RowKeeps (d : Dialect) (file x : List ℕ) (b : ℕ) (g : Group) (es : List Entry) : Type 0 where
  pub each : (k : List ℕ) → (place k (key_names g) ≡ 0 → ⊥)
      → SlotKeeps d (kind_of g k) file (slot (b + place k (key_names g)) x) (entry_of k es)

-- each group is the one that its name names, has a line, and was not named before
abbrev pub WellNamed : Dialect → List Section → Type 0
WellNamed d [] = Unit
WellNamed d (s ∷ gs) =
    (group_of d s.name ≡ Some s.group) × (0 < s.line) × (name_given s.name gs ≡ false) × WellNamed d gs

-- all rows
pub record RowsKeep (d : Dialect) (file x : List ℕ) (gs : List Section) : Type 0 where
  pub few : services gs ≤ 8
  pub well : WellNamed d gs
  pub each : (r : ℕ) → OwnRow d r → RowKeeps d file x (base_at r) (group_at r) (latest r gs)

-- the names of the first n services: that they lie in the file, and whether w is one of them
pub record Spans (file x : List ℕ) (n : ℕ) : Type 0 where
  pub few : n ≤ 8
  pub each : (i : ℕ) → i < n
      → ((slot (name_base + i) x).start ≤ (slot (name_base + i) x).end) × ((slot (name_base + i) x).end ≤ length file)

abbrev pub among : List ℕ → List ℕ → ℕ → List ℕ → Bool
among file x zero w = false
among file x (suc i) w =
    same w (part (slot (name_base + i) x).start (slot (name_base + i) x).end file) || among file x i w

-- where the settings and the header of each group stand
pub record TableKeeps (d : Dialect) (file x : List ℕ) (gs : List Section) : Type 0 where
  pub long : length x ≡ table_length
  pub rows : RowsKeep d file x gs
  pub heads : (r : ℕ) → OwnRow d r → slot (base_at r) x ≡ head_slot r gs

pub record HoldsGroups (d : Dialect) (file : List ℕ) (st : State) (x : List ℕ) (gs : List Section) : Type 0 where
  pub table : TableKeeps d file x gs
  pub current : st.current ≡ current_of gs
  pub services : st.services ≡ services gs
  pub settings : st.settings ≡ settings gs
  pub spans : Spans file x st.services
  pub names : (n : List ℕ) → group_of d n ≡ Some Service → among file x st.services n ≡ name_given n gs
