-- What is asked of an accepted file: a setting, by its group or by its service's number, and its key.
use Rattle.std.specs.Prelude.{ℕ, zero, suc, cond, List, [], ◌∷◌, Option, None, Some, Ok, Err}
use Rattle.text.specs.Bytes.{between}
use Rattle.rules.specs.Sections.{Entry, Section, serves, entry_of, entries_in}
use Rattle.rules.specs.declared.Refusal.TheVariants.{NoService}
use Rattle.rules.specs.Answering.{Answer, Reading, refused_at}

-- of an iwd file the setting with a key in the group with a name
abbrev pub iwd_entry : List Section → List ℕ → List ℕ → Option Entry
iwd_entry gs n k = entry_of k (entries_in n gs)

-- the settings of service w, the first being 1; none where there is no such service
abbrev pub first_or : ℕ → List Entry → List Entry → List Entry
first_or zero es rest = es
first_or (suc n) es rest = rest

abbrev pub service_at : ℕ → List Section → List Entry
service_at zero gs = []
service_at (suc n) [] = []
service_at (suc n) (g ∷ gs) = cond (serves g.group) (first_or n g.entries (service_at n gs)) (service_at (suc n) gs)

-- what is read from a setting's value, its line, and where its value starts; none and 0 where it is absent
abbrev pub read_as : {A : Type 0} → (List ℕ → Option A) → Option Entry → Option A
read_as f None = None
read_as f (Some x) = f x.value

abbrev pub entry_line : Option Entry → ℕ
entry_line None = 0
entry_line (Some x) = x.line

abbrev pub entry_start : Option Entry → ℕ
entry_start None = 0
entry_start (Some x) = x.start

-- the answer to what is asked of a file, and of service w of it: "18: service number is 0 or above the count", after "the file's own refusals"
abbrev pub asked : Reading → Answer
asked (Ok c) = Ok tt
asked (Err f) = Err f

abbrev pub asked_of : ℕ → Reading → Answer
asked_of w (Ok c) = cond (between 1 c.services w) (Ok tt) (refused_at NoService 0)
asked_of w (Err f) = Err f
