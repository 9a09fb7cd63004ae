-- A header's answer by the table of places is the one by the groups that the table holds.
use Prim.Native.Nat.{ℕ}
use native.Mathlib.Omega.{arith}
use mathlib.Core.Path.{◌≡◌, refl, ap, sym, ◌∙◌}
use mathlib.Core.Bool.{Bool, true, false, cond, not, ◌&&◌}
use mathlib.Core.List.{List}
use Rattle.std.specs.Prelude.{Option, None, Some, Result, Ok, Err}
use borrow.Author.Tests.{eqb-true, eqb-false}
use lib.Dec.{eqb, leb}
use Rattle.text.specs.declared.Dialect.{Dialect}
use Rattle.lines.specs.Lines.{header}
use Rattle.rules.specs.Tables.{group_of}
use Rattle.rules.specs.Sections.{Section, name_given, serves, services}
use Rattle.rules.specs.Faults.{header_fault, fault}
use Rattle.rules.proofs.GoodEntries.{serves_service}
use Rattle.rules.specs.declared.Group.{Group}
use Rattle.rules.specs.declared.Refusal.{Refusal}
use Rattle.rules.specs.declared.Refusal.TheVariants.{RepeatedGroup, ManyServices}
use Rattle.places.specs.Store.{Slot, slot}
use Rattle.places.specs.History.{row_number, base_at, head_slot}
use Rattle.places.specs.Holds.{among, HoldsGroups}
use Rattle.reader.specs.Headings.{slots_heading}
use Rattle.places.specs.declared.State.{State}
use Rattle.places.proofs.RowLaws.{own_row}
use Rattle.reader.proofs.PlainHeading.{unnamed, renamed}

abbrev pub heading_fault : Result Group Refusal → Option Refusal
heading_fault (Ok g) = None
heading_fault (Err r) = Some r

module _ {d : Dialect} {file : List ℕ} {st : State} {x : List ℕ} {gs : List Section} (h : HoldsGroups d file st x gs) (n : List ℕ) where
  plain_named : {g : Group} → group_of d n ≡ Some g → serves g ≡ false → (b : Bool) → eqb (head_slot (row_number g 0) gs).line 0 ≡ b → not b ≡ name_given n gs
  plain_named {g} q v true e = sym (unnamed d n g q v gs h.table.rows.well (eqb-true (head_slot (row_number g 0) gs).line 0 e)).name
  plain_named {g} q v false e = sym (renamed d n g q v gs h.table.rows.well (eqb-false (head_slot (row_number g 0) gs).line 0 e))

  named_is : {g : Group} → group_of d n ≡ Some g → (b : Bool) → serves g ≡ b → cond b (among file x st.services n) (not (eqb (slot (base_at (row_number g 0)) x).line 0)) ≡ name_given n gs
  named_is {g} q true v = h.names n (q ∙ ap Some (serves_service g v))
  named_is {g} q false v = rw (ap (λ (s : Slot). s.line) (h.table.heads (row_number g 0) (own_row d n q 0 (omega arith)))) (plain_named q v (eqb (head_slot (row_number g 0) gs).line 0) refl)

  opened : (g : Group) (a b : Bool) → heading_fault (cond a (Err RepeatedGroup) (cond b (Err ManyServices) (Ok g))) ≡ cond a (Some RepeatedGroup) (cond b (Some ManyServices) None)
  opened g true b = refl
  opened g false true = refl
  opened g false false = refl

  fault_of : (o : Option Group) → group_of d n ≡ o → heading_fault (slots_heading file x st.services n o) ≡ header_fault n o gs
  fault_of None q = refl
  fault_of (Some g) q = rw (named_is q (serves g) refl, h.services) (opened g (name_given n gs) (serves g && leb 8 (services gs)))

  pub heading_fault_lem : heading_fault (slots_heading file x st.services n (group_of d n)) ≡ fault d gs (header n)
  unfolding fault
  heading_fault_lem = fault_of (group_of d n) refl
