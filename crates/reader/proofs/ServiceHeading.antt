-- A header of a service: what is held after it.
use Prim.Native.Nat.{ℕ, suc, ◌+◌, ◌≤◌, ◌<◌}
use native.Mathlib.Omega.{arith}
use mathlib.Core.Path.{◌≡◌, refl, ap, ap₂, sym, ◌∙◌, subst}
use mathlib.Core.Bool.{Bool, true, false, ◌||◌}
use mathlib.Core.List.{List, [], ◌∷◌}
use Rattle.std.specs.Prelude.{Some}
use borrow.Author.Tests.{eqb-true, eqb-false}
use lib.Dec.{eqb}
use lib.ListN.{length}
use Rattle.text.specs.Parts.{part, part_at, Inside}
use Rattle.text.specs.Words.{same}
use Rattle.text.specs.declared.Dialect.{Dialect}
use Rattle.text.specs.declared.Place.{Place}
use Rattle.rules.specs.Tables.{group_of}
use Rattle.rules.specs.Sections.{Section, name_given, services}
use Rattle.rules.specs.declared.Group.TheVariants.{Service}
use Rattle.places.specs.Store.{Slot, slot, stored}
use Rattle.places.specs.History.{name_base, row_number, base_at}
use Rattle.places.specs.Holds.{Spans, among, TableKeeps, HoldsGroups}
use Rattle.reader.specs.Steps.{header_slot, name_slot}
use Rattle.places.specs.declared.State.{State}
use Rattle.places.specs.declared.Current.TheVariants.{In}
use Rattle.places.proofs.Slots.{stored_here, stored_there}
use Rattle.places.proofs.RowLaws.{lies, own_row}
use Rattle.reader.proofs.Growing.{among_kept}
use Rattle.reader.proofs.PlainHeading.{latest_new, there, table_headed, table_named}

module _ {d : Dialect} {file : List ℕ} {st : State} {x : List ℕ} {gs : List Section} (h : HoldsGroups d file st x gs) (p : Place) (q : group_of d (part_at file p) ≡ Some Service) (new : name_given (part_at file p) gs ≡ false) (s l : ℕ) (k : 0 < l) (few : st.services < 8) (inside : Inside (length file) p) where
  abbrev one : List ℕ
  one = stored (base_at (row_number Service (suc (services gs)))) (header_slot s l) x

  abbrev two : List ℕ
  two = stored (name_base + st.services) (name_slot p l) one

  abbrev this : Section
  this = record { name = part_at file p; group = Service; line = l; start = s; entries = [] }

  less : suc (services gs) ≤ 8
  less = omega (arith, h.services)

  headed : TableKeeps d file one (this ∷ gs)
  headed = table_headed h.table (part_at file p) Service s l q less (latest_new gs (4 + suc (services gs)) (omega arith)) k new

  name_kept : (i : ℕ) → i < st.services → slot (name_base + i) two ≡ slot (name_base + i) x
  name_kept i j = stored_there one (name_base + st.services) (name_slot p l) headed.long (omega (arith, few)) (name_base + i) (omega (arith, j, few)) (λ e. omega (arith, e, j)) ∙ there h.table (part_at file p) Service s l q less (name_base + i) (omega (arith, j, few)) (λ e. let o = lies d (4 + suc (services gs)) (own_row d (part_at file p) q (suc (services gs)) less) in omega (arith, e, less))

  name_here : slot (name_base + st.services) two ≡ name_slot p l
  name_here = stored_here one (name_base + st.services) (name_slot p l) headed.long (omega (arith, few))

  spans_of : Spans file two (st.services + 1)
  spans_of = record { few = omega (arith, few); each = λ i j. go i (eqb i st.services) refl j }
    where
      go : (i : ℕ) (o : Bool) → eqb i st.services ≡ o → i < st.services + 1 → ((slot (name_base + i) two).start ≤ (slot (name_base + i) two).end) × ((slot (name_base + i) two).end ≤ length file)
      go i true v j = subst (λ (t : Slot). (t.start ≤ t.end) × (t.end ≤ length file)) (sym (ap (λ (m : ℕ). slot (name_base + m) two) (eqb-true i st.services v) ∙ name_here)) (inside.low, inside.high)
      go i false v j =
          let less : i < st.services = (let n = eqb-false i st.services v in omega (arith, n, j)) in
          subst (λ (t : Slot). (t.start ≤ t.end) × (t.end ≤ length file)) (sym (name_kept i less)) (h.spans.each i less)

  names_of : (m : List ℕ) → group_of d m ≡ Some Service → among file two (st.services + 1) m ≡ (same m (part_at file p) || name_given m gs)
  names_of m v =
      let next : st.services + 1 ≡ suc st.services = omega arith in
      ap (λ (j : ℕ). among file two j m) next
      ∙ ap₂ ◌||◌
      (ap (λ (t : Slot). same m (part t.start t.end file)) name_here)
      (among_kept file x two st.services name_kept m ∙ h.names m v)

  pub holds_service : {r : State} → r ≡ record { current = In Service (base_at (row_number Service (st.services + 1))); services = st.services + 1; settings = st.settings } → HoldsGroups d file r (stored (name_base + st.services) (name_slot p l) (stored (base_at (row_number Service (st.services + 1))) (header_slot s l) x)) (this ∷ gs)
  holds_service {r} v =
      let next : st.services + 1 ≡ suc (services gs) = omega (arith, h.services) in
      subst (λ (i : ℕ). HoldsGroups d file r (stored (name_base + st.services) (name_slot p l) (stored (base_at (row_number Service i)) (header_slot s l) x)) (this ∷ gs)) (sym next)
      (rw v
      (record {
        table = table_named headed (name_base + st.services) (name_slot p l) (omega arith) (omega (arith, few));
        current = ap (λ (i : ℕ). In Service (base_at (row_number Service i))) next;
        services = next;
        settings = omega (arith, h.settings);
        spans = spans_of;
        names = names_of;
      }))
