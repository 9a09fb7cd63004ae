-- What stands in a file: its groups and their settings, as the reading keeps them and as they are asked.
use Rattle.std.specs.Prelude.{ℕ, suc, ◌+◌, Bool, true, false, cond, ◌||◌, List, [], ◌∷◌, ◌++◌, length, Option, None, Some}
use Rattle.text.specs.Words.{same}
use Rattle.text.specs.declared.Dialect.{Dialect}
use Rattle.lines.specs.Lines.{Line, blank, comment, header, setting, broken}
use Rattle.rules.specs.Tables.{group_of}
use Rattle.rules.specs.declared.Group.{Group}
use Rattle.rules.specs.declared.Group.TheVariants.{Settings, Security, Ipv4, Ipv6, Global, Service}

-- a setting: its key, its value, its line, and where in the file its value starts
pub record Entry : Type 0 where
  pub key : List ℕ
  pub value : List ℕ
  pub line : ℕ
  pub start : ℕ

-- a group as it stands in a file: its name, which group it is, its header's line and where that starts, and its settings in order
pub record Section : Type 0 where
  pub name : List ℕ
  pub group : Group
  pub line : ℕ
  pub start : ℕ
  pub entries : List Entry

-- ---- settings

-- whether a key is given
abbrev pub given : List ℕ → List Entry → Bool
given k [] = false
given k (x ∷ xs) = same k x.key || given k xs

-- the setting with a key
abbrev pub entry_of : List ℕ → List Entry → Option Entry
entry_of k [] = None
entry_of k (x ∷ xs) = cond (same k x.key) (Some x) (entry_of k xs)

-- ---- groups

-- whether a group was named
abbrev pub name_given : List ℕ → List Section → Bool
name_given n [] = false
name_given n (g ∷ gs) = same n g.name || name_given n gs

-- the settings of the group with a name
abbrev pub entries_in : List ℕ → List Section → List Entry
entries_in n [] = []
entries_in n (g ∷ gs) = cond (same n g.name) g.entries (entries_in n gs)

-- whether a group is a service
abbrev pub serves : Group → Bool
serves Settings = false
serves Security = false
serves Ipv4 = false
serves Ipv6 = false
serves Global = false
serves Service = true

-- "the number of setting lines and, for ConnMan, of services"
abbrev pub settings : List Section → ℕ
settings [] = 0
settings (g ∷ gs) = length g.entries + settings gs

abbrev pub services : List Section → ℕ
services [] = 0
services (g ∷ gs) = cond (serves g.group) (suc (services gs)) (services gs)

-- ---- the groups with one more good line, the latest group first; the line's number is l and it starts at s in the file, and
-- at is where its value starts in it

abbrev pub with_entry : Entry → List Section → List Section
with_entry x [] = []
with_entry x (g ∷ gs) =
    record { name = g.name; group = g.group; line = g.line; start = g.start; entries = g.entries ++ (x ∷ []) } ∷ gs

abbrev pub with_group : List ℕ → Option Group → ℕ → ℕ → List Section → List Section
with_group n None l s gs = gs
with_group n (Some g) l s gs = record { name = n; group = g; line = l; start = s; entries = [] } ∷ gs

unfoldable pub with_line : Dialect → ℕ → ℕ → ℕ → Line → List Section → List Section
with_line d l s at blank gs = gs
with_line d l s at comment gs = gs
with_line d l s at (broken b) gs = gs
with_line d l s at (header n) gs = with_group n (group_of d n) l s gs
with_line d l s at (setting k v) gs = with_entry (record { key = k; value = v; line = l; start = s + at }) gs
