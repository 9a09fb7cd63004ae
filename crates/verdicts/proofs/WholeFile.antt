-- The end of a file: the groups' first fault.
use Prim.Native.Nat.{ℕ}
use native.Mathlib.Omega.{arith}
use mathlib.Core.Path.{◌≡◌, refl, ap, sym, ◌∙◌}
use mathlib.Core.List.{List, reverse}
use Rattle.std.specs.Prelude.{Option, None, Some}
use Rattle.rules.specs.Reading.{Name, iwd_name, connman_file, groups_fault, verdict}
use Rattle.rules.specs.Sections.{Section, services, settings}
use Rattle.rules.specs.declared.Fault.{Fault}
use Rattle.places.specs.Holds.{HoldsGroups}
use Rattle.verdicts.specs.Ending.{kind_of_name, name_dialect, slots_groups, end_answer, EndSays}
use Rattle.verdicts.specs.declared.FileKind.{FileKind}
use Rattle.places.specs.declared.State.{State}
use Rattle.verdicts.proofs.ServicesFault.{services_fault_lem, fault_reverse}
use Rattle.places.proofs.Backwards.{services_reverse, settings_reverse}
use Rattle.verdicts.proofs.FileFault.{file_fault_lem}
use Rattle.rules.specs.AnsweringLaws.{same_counts}
use Rattle.rules.specs.Answering.{Reading, accepted_with}

module _ {file : List ℕ} {st : State} {x : List ℕ} {gs : List Section} where
  groups_fault_lem : (n : Name) → HoldsGroups (name_dialect n) file st x gs → slots_groups (kind_of_name (Some n)) x st.services ≡ groups_fault n (reverse gs)
  groups_fault_lem (iwd_name s) h = file_fault_lem h.table s
  groups_fault_lem connman_file h = services_fault_lem h.table h.services ∙ sym (fault_reverse gs)

answered_verdict : (o : Option Fault) (gs : List Section) {n m : ℕ} → n ≡ settings gs → m ≡ services gs → end_answer o n m ≡ verdict o gs
answered_verdict None gs p q = rw (p, q)
answered_verdict (Some f) gs p q = refl

answered_count : (p : Option Fault) (s v : ℕ) {n m : ℕ} → end_answer p s v ≡ accepted_with n m → m ≡ v
answered_count None s v e = sym (same_counts e).1
answered_count (Some f) s v e = let z : ◌≡◌ {A = ℕ} 0 1 = cc in absurd (omega arith)

pub ends : (k : Option FileKind) {st : State} {x : List ℕ} {p : Option Fault} → p ≡ slots_groups k x st.services → {r : Reading} → r ≡ end_answer p st.settings st.services → EndSays k st x r
ends k {st} {x} {p} f {r} e =
    let d : r ≡ end_answer (slots_groups k x st.services) st.settings st.services = e ∙ ap (λ (t : Option Fault). end_answer t st.settings st.services) f in
    record {
      is = d;
      reads = record {
        reading = λ n q gs h.
            d
            ∙ ap (λ (t : Option Fault). end_answer t st.settings st.services) (ap (λ (t : Option FileKind). slots_groups t x st.services) q ∙ groups_fault_lem n h)
            ∙ answered_verdict (groups_fault n (reverse gs)) (reverse gs) (h.settings ∙ sym (settings_reverse gs)) (h.services ∙ sym (services_reverse gs));
        counted = λ q. answered_count p st.settings st.services (sym e ∙ q);
      };
    }
