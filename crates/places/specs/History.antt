-- What the pass must know of the groups before a line; they stand the latest first.
use Rattle.std.specs.Prelude.{ℕ, ◌+◌, ◌-◌, ◌*◌, ◌≤◌, ◌<◌, cond, List, [], ◌∷◌, eqb, leb}
use Rattle.text.specs.declared.Dialect.{Dialect}
use Rattle.text.specs.declared.Dialect.TheVariants.{Iwd, ConnMan}
use Rattle.rules.specs.Sections.{Entry, Section, services}
use Rattle.rules.specs.declared.Group.{Group}
use Rattle.rules.specs.declared.Group.TheVariants.{Settings, Security, Ipv4, Ipv6, Global, Service}
use Rattle.places.specs.Store.{row_length, last_row, Slot, empty_slot}
use Rattle.places.specs.declared.Current.{Current}
use Rattle.places.specs.declared.Current.TheVariants.{Outside, In}

-- the row of a group in the table of places, n services counted; the first slot of a row is for its
-- header, the others are by the keys' places
abbrev pub row_number : Group → ℕ → ℕ
row_number Settings n = 0
row_number Security n = 1
row_number Ipv4 n = 2
row_number Ipv6 n = 3
row_number Global n = 4
row_number Service n = 4 + n

-- where a row starts; the rows of the two dialects lie over each other, since a file has one
abbrev pub base_at : ℕ → ℕ
base_at r = cond (leb 4 r) (row_length * (r - 4)) (row_length * r)

abbrev pub base : Group → ℕ → ℕ
base g n = base_at (row_number g n)

-- whether a row is of a dialect
abbrev pub OwnRow : Dialect → ℕ → Type 0
OwnRow Iwd r = r < 4
OwnRow ConnMan r = (4 ≤ r) × (r < 13)

abbrev pub name_base : ℕ
name_base = last_row + row_length

unfoldable pub group_at : ℕ → Group
group_at r =
    cond (eqb r 0) Settings
    (cond (eqb r 1) Security
    (cond (eqb r 2) Ipv4
    (cond (eqb r 3) Ipv6
    (cond (eqb r 4) Global Service))))

-- the row of a group that stands after others
abbrev pub row_after : Section → List Section → ℕ
row_after s gs = row_number s.group (services (s ∷ gs))

-- the group in force, and where its row starts
abbrev pub current_of : List Section → Current
current_of [] = Outside
current_of (s ∷ gs) = In s.group (base_at (row_after s gs))

-- the settings and the header of a row
abbrev pub latest : ℕ → List Section → List Entry
latest r [] = []
latest r (s ∷ gs) = cond (eqb r (row_after s gs)) s.entries (latest r gs)

abbrev pub head_slot : ℕ → List Section → Slot
head_slot r [] = empty_slot
head_slot r (s ∷ gs) =
    cond (eqb r (row_after s gs)) (record { start = s.start; end = s.start; line = s.line; code = 0 }) (head_slot r gs)
