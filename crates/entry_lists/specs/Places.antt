-- Where the entries of a list stand, in the code's type.
use Rattle.std.specs.Prelude.{ℕ, ◌+◌, ◌-◌, List, [], ◌∷◌, ◌++◌, length, replicate}
use Rattle.text.specs.declared.Place.{Place}
use Rattle.entry_lists.specs.declared.Entries.{Entries}

-- where each entry of a list starts and ends, one byte between two entries; the first starts at `at`
abbrev pub places_from : ℕ → List (List ℕ) → List Place
places_from at [] = []
places_from at (e ∷ es) = record { start = at; end = at + length e } ∷ places_from (at + length e + 1) es

abbrev pub no_place : Place
no_place = record { start = 0; end = 0 }

-- a list whose first entry starts at b
abbrev pub entries_laid : ℕ → List (List ℕ) → Entries
entries_laid b l = record { count = length l; places = places_from b l ++ replicate (4 - length l) no_place }
