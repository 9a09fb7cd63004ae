-- The end of a file: its groups as a whole, and what the table of places then says.
use Rattle.std.specs.Prelude.{ℕ, ◌≡◌, List, reverse, Option, None, Some, Err}
use Rattle.text.specs.Options.{mapped}
use Rattle.text.specs.declared.Dialect.{Dialect}
use Rattle.text.specs.declared.Dialect.TheVariants as D
use Rattle.rules.specs.Sections.{Section}
use Rattle.rules.specs.Faults.{fault_at}
use Rattle.rules.specs.declared.Fault.{Fault}
use Rattle.rules.specs.Reading.{Name, iwd_name, connman_file, groups_fault, verdict}
use Rattle.places.specs.Holds.{HoldsGroups}
use Rattle.verdicts.specs.Closing.{slots_fault}
use Rattle.verdicts.specs.FileRule.{slots_file}
use Rattle.verdicts.specs.declared.FileKind.{FileKind}
use Rattle.verdicts.specs.declared.FileKind.TheVariants as K
use Rattle.places.specs.declared.State.{State}
use Rattle.rules.specs.Answering.{Reading, accepted_with}

-- the kind of a file by what its name says, and by its name, if that is a file's
abbrev pub kind_named : Name → FileKind
kind_named (iwd_name s) = K.Iwd s
kind_named connman_file = K.ConnMan

abbrev pub kind_of_name : Option Name → Option FileKind
kind_of_name o = mapped kind_named o

abbrev pub name_dialect : Name → Dialect
name_dialect (iwd_name s) = D.Iwd
name_dialect connman_file = D.ConnMan

-- the first fault of the groups, by the table of places; none where the name is no file's
abbrev pub slots_groups : Option FileKind → List ℕ → ℕ → Option Fault
slots_groups None x n = None
slots_groups (Some (K.Iwd s)) x n = fault_at 0 (slots_file s x)
slots_groups (Some K.ConnMan) x n = slots_fault x n

abbrev pub end_answer : Option Fault → ℕ → ℕ → Reading
end_answer None n m = accepted_with n m
end_answer (Some f) n m = Err f

-- what the end of a file says of its groups, where the table of places holds them, and of its services
pub record EndReads (k : Option FileKind) (st : State) (x : List ℕ) (r : Reading) : Type 0 where
  pub reading : (n : Name) → k ≡ kind_of_name (Some n) → {file : List ℕ} (gs : List Section)
      → HoldsGroups (name_dialect n) file st x gs → r ≡ verdict (groups_fault n (reverse gs)) (reverse gs)
  pub counted : {n m : ℕ} → r ≡ accepted_with n m → m ≡ st.services

-- that, and which answer it is, by the table of places alone
pub record EndSays (k : Option FileKind) (st : State) (x : List ℕ) (r : Reading) : Type 0 where
  pub is : r ≡ end_answer (slots_groups k x st.services) st.settings st.services
  pub reads : EndReads k st x r
