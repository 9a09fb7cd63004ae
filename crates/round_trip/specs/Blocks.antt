-- Groups of settings by names, keys and values alone: what is left of a reading, what is asked of it, and which are good to write.
use Rattle.std.specs.Prelude.{ℕ, ◌+◌, ◌≡◌, Bool, true, false, cond, not, ◌&&◌, List, [], ◌∷◌, ◌++◌, length, Option, None, Some}
use Rattle.text.specs.Words.{same}
use Rattle.text.specs.Options.{is_some}
use Rattle.text.specs.declared.Dialect.{Dialect}
use Rattle.kinds.specs.Typed.{judged}
use Rattle.kinds.specs.declared.Kind.{Kind}
use Rattle.lines.specs.Rendering.{HeaderText, SettingText}
use Rattle.rules.specs.Tables.{group_of, kind_of}
use Rattle.rules.specs.Sections.{Entry, Section, name_given, serves}
use Rattle.rules.specs.Faults.{value_fault}
use Rattle.rules.specs.declared.Group.{Group}
use Rattle.written.specs.Written.{WrittenRow, Block}

-- ---- a file's groups without the places of their lines

abbrev pub bare : List Entry → List WrittenRow
bare [] = []
bare (x ∷ xs) = (x.key, x.value) ∷ bare xs

abbrev pub bare_blocks : List Section → List Block
bare_blocks [] = []
bare_blocks (g ∷ gs) = record { name = g.name; rows = bare g.entries } ∷ bare_blocks gs

-- the groups that have a setting: "only those with a line"
abbrev pub or_skipped : List ℕ → List WrittenRow → List Block → List Block
or_skipped n [] bs = bs
or_skipped n (r ∷ rs) bs = record { name = n; rows = r ∷ rs } ∷ bs

abbrev pub kept : List Block → List Block
kept [] = []
kept (b ∷ bs) = or_skipped b.name b.rows (kept bs)

-- ---- what is asked of them

-- the value of the setting with a key
abbrev pub row_value : List ℕ → List WrittenRow → Option (List ℕ)
row_value k [] = None
row_value k (r ∷ rs) = cond (same k r.0) (Some r.1) (row_value k rs)

-- the settings of the group with a name
abbrev pub rows_in : List ℕ → List Block → List WrittenRow
rows_in n [] = []
rows_in n (b ∷ bs) = cond (same n b.name) b.rows (rows_in n bs)

-- how many settings
abbrev pub row_count : List Block → ℕ
row_count [] = 0
row_count (b ∷ bs) = length b.rows + row_count bs

-- ---- groups that are good to write

-- a setting of group g
pub record GoodRow (d : Dialect) (g : Group) (r : WrittenRow) : Type 0 where
  pub kind : Kind
  pub listed : kind_of g r.0 ≡ Some kind
  pub good : value_fault (judged d kind r.1) ≡ None
  pub text : SettingText d r.0 r.1

abbrev pub GoodRows : Dialect → Group → List WrittenRow → Type 0
GoodRows d g [] = Unit
GoodRows d g (r ∷ rs) = GoodRow d g r × GoodRows d g rs

-- no key stands twice; done are the settings before
abbrev pub keys_apart : List WrittenRow → List WrittenRow → Bool
keys_apart done [] = true
keys_apart done (r ∷ rs) = not (is_some (row_value r.0 done)) && keys_apart (done ++ (r ∷ [])) rs

pub record GoodBlock (d : Dialect) (b : Block) : Type 0 where
  pub group : Group
  pub named : group_of d b.name ≡ Some group
  pub plain : serves group ≡ false
  pub header : HeaderText d b.name
  pub rows : GoodRows d group b.rows
  pub apart : keys_apart [] b.rows ≡ true

abbrev pub GoodBlocks : Dialect → List Block → Type 0
GoodBlocks d [] = Unit
GoodBlocks d (b ∷ bs) = GoodBlock d b × GoodBlocks d bs

-- no group is named twice: none is named n, and none as one behind it
abbrev pub name_free : List ℕ → List Block → Bool
name_free n [] = true
name_free n (b ∷ bs) = not (same b.name n) && name_free n bs

abbrev pub names_apart : List Block → Bool
names_apart [] = true
names_apart (b ∷ bs) = name_free b.name bs && names_apart bs

-- none is named as one of the groups before
abbrev pub Unnamed : List Block → List Section → Type 0
Unnamed [] gs = Unit
Unnamed (b ∷ bs) gs = (name_given b.name gs ≡ false) × Unnamed bs gs
