-- Headers by the table of places: whether a group was named, and what a header does.
use Rattle.std.specs.Prelude.{ℕ, Bool, cond, not, ◌&&◌, List, eqb, leb, Option, None, Some, Result, Ok, Err}
use Rattle.rules.specs.Sections.{serves}
use Rattle.rules.specs.declared.Group.{Group}
use Rattle.rules.specs.declared.Refusal.{Refusal}
use Rattle.rules.specs.declared.Refusal.TheVariants.{UnknownGroup, RepeatedGroup, ManyServices}
use Rattle.places.specs.History.{base}
use Rattle.places.specs.Holds.{among}
use Rattle.places.specs.Store.{slot}

-- a service by the services' names, any other group by its header's slot
abbrev pub slots_named : List ℕ → List ℕ → ℕ → List ℕ → Group → Bool
slots_named file x n name g = cond (serves g) (among file x n name) (not (eqb (slot (base g 0) x).line 0))

abbrev pub slots_open : List ℕ → List ℕ → ℕ → List ℕ → Group → Result Group Refusal
slots_open file x n name g =
    cond (slots_named file x n name g) (Err RepeatedGroup)
    (cond (serves g && leb 8 n) (Err ManyServices) (Ok g))

abbrev pub slots_heading : List ℕ → List ℕ → ℕ → List ℕ → Option Group → Result Group Refusal
slots_heading file x n name None = Err UnknownGroup
slots_heading file x n name (Some g) = slots_open file x n name g
