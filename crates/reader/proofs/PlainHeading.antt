-- A header of a group that stands once in a file: whether it was named, and what is held after it.
use Prim.Native.Nat.{ℕ, suc, ◌+◌, ◌≤◌, ◌<◌}
use native.Mathlib.Omega.{arith}
use mathlib.Core.Path.{◌≡◌, refl, ap, sym, ◌∙◌, subst}
use mathlib.Core.Bool.{Bool, true, false, cond, ◌||◌, true≢false}
use mathlib.Core.List.{List, [], ◌∷◌}
use Rattle.std.specs.Prelude.{Some}
use Rattle.std.proofs.lemmas.Option.{same_Some}
use borrow.Author.Tests.{eqb-true, eqb-false, ne_eqb}
use lib.Dec.{eqb}
use Rattle.text.specs.Words.{same, place}
use Rattle.text.specs.Laws.{same_eq, same_refl}
use Rattle.text.specs.declared.Dialect.{Dialect}
use Rattle.rules.specs.Tables.{group_of}
use Rattle.rules.specs.Sections.{Entry, Section, name_given, serves, services}
use Rattle.tables.specs.KeyPlaces.{key_names}
use Rattle.rules.specs.declared.Group.{Group}
use Rattle.rules.specs.declared.Group.TheVariants.{Settings, Security, Ipv4, Ipv6, Global, Service}
use Rattle.places.specs.Store.{slot_count, Slot, slot, stored}
use Rattle.places.specs.History.{name_base, row_number, base_at, OwnRow, group_at, row_after, latest, head_slot}
use Rattle.places.specs.Holds.{RowKeeps, WellNamed, TableKeeps, HoldsGroups}
use Rattle.reader.specs.Steps.{header_slot}
use Rattle.places.specs.declared.State.{State}
use Rattle.places.specs.declared.Current.TheVariants.{In}
use Rattle.places.proofs.Slots.{stored_long, stored_here, stored_there}
use Rattle.places.proofs.RowLaws.{keys_few, row_kept, Lies, lies, own_row}
use Rattle.places.proofs.GroupRows.{one_name, row_plain, same_row, other_row, other_name}
use Rattle.reader.proofs.Growing.{among_kept, spans_kept}

-- ---- whether such a group was named, by its header's slot

module _ (d : Dialect) (n : List ℕ) (g : Group) (q : group_of d n ≡ Some g) (v : serves g ≡ false) where
  -- a group that was not named has no settings, and a group that was named has a line
  pub record Unnamed (gs : List Section) : Type 0 where
    pub name : name_given n gs ≡ false
    pub none : latest (row_number g 0) gs ≡ []

  pub unnamed : (gs : List Section) → WellNamed d gs → (head_slot (row_number g 0) gs).line ≡ 0 → Unnamed gs
  unnamed [] w e = record { name = refl; none = refl }
  unnamed (s ∷ gs) w e = go (eqb (row_number g 0) (row_after s gs)) refl (λ k. unnamed gs w.3 k) e
    where
      go : (b : Bool) → eqb (row_number g 0) (row_after s gs) ≡ b → ((head_slot (row_number g 0) gs).line ≡ 0 → Unnamed gs) → (cond b (record { start = s.start; end = s.start; line = s.line; code = 0 }) (head_slot (row_number g 0) gs)).line ≡ 0 → Unnamed (s ∷ gs)
      go true p f k = absurd (omega (arith, k, w.1))
      go false p f k = let u = f k in record { name = rw (other_name d n g q v s.name w.0 (other_row d n g q v s gs p)) u.name; none = rw p u.none }

  pub renamed : (gs : List Section) → WellNamed d gs → ((head_slot (row_number g 0) gs).line ≡ 0 → ⊥) → name_given n gs ≡ true
  renamed [] w e = absurd (e refl)
  renamed (s ∷ gs) w e = go (eqb (row_number g 0) (row_after s gs)) refl (λ k. renamed gs w.3 k) e
    where
      go : (b : Bool) → eqb (row_number g 0) (row_after s gs) ≡ b → (((head_slot (row_number g 0) gs).line ≡ 0 → ⊥) → name_given n gs ≡ true) → ((cond b (record { start = s.start; end = s.start; line = s.line; code = 0 }) (head_slot (row_number g 0) gs)).line ≡ 0 → ⊥) → (same n s.name || name_given n gs) ≡ true
      go true p f k =
          let t : group_of d s.name ≡ Some g = w.0 ∙ ap Some (same_row d n g q v s gs p) in
          let m : n ≡ s.name = one_name d n q v ∙ sym (one_name d s.name t v) in
          rw (← m, same_refl n)
      go false p f k = or_right (same n s.name) (f k)
        where
          or_right : (a : Bool) {b : Bool} → b ≡ true → (a || b) ≡ true
          or_right true e = refl
          or_right false e = e

-- ---- a header in a row that has no settings

pub latest_new : (gs : List Section) (r : ℕ) → 4 + services gs < r → latest r gs ≡ []
latest_new [] r h = refl
latest_new (s ∷ gs) r h = rw (ne_eqb r (row_after s gs) (λ e. omega (arith, e, h, row_most s.group (services (s ∷ gs))))) (latest_new gs r (omega (arith, h, services_more s gs)))
  where
    row_most : (g : Group) (n : ℕ) → row_number g n ≤ 4 + n
    row_most Settings n = omega arith
    row_most Security n = omega arith
    row_most Ipv4 n = omega arith
    row_most Ipv6 n = omega arith
    row_most Global n = omega arith
    row_most Service n = omega arith

    services_more : (s : Section) (gs : List Section) → services gs ≤ services (s ∷ gs)
    services_more s gs = go (serves s.group)
      where
        go : (b : Bool) → services gs ≤ cond b (suc (services gs)) (services gs)
        go true = omega arith
        go false = omega arith

module _ {d : Dialect} {file x : List ℕ} {gs : List Section} (t : TableKeeps d file x gs) where
  -- a slot behind the rows
  pub table_named : (i : ℕ) (p : Slot) → name_base ≤ i → i < slot_count → TableKeeps d file (stored i p x) gs
  table_named i p low high =
      record {
        long = stored_long x i p t.long high;
        rows = record { few = t.rows.few; well = t.rows.well; each = λ r l. row_kept (t.rows.each r l) (λ m y. there (base_at r + place m (key_names (group_at r))) (let o = lies d r l in omega (arith, keys_few (group_at r) m))) };
        heads = λ r l. there (base_at r) (let o = lies d r l in omega arith) ∙ t.heads r l;
      }
    where
      there : (j : ℕ) → j < name_base → slot j (stored i p x) ≡ slot j x
      there j k = stored_there x i p t.long high j (omega (arith, k)) (λ e. omega (arith, e, k, low))

  module _ (n : List ℕ) (g : Group) (s l : ℕ) where
    abbrev this : Section
    this = record { name = n; group = g; line = l; start = s; entries = [] }

    module _ (q : group_of d n ≡ Some g) (few : services (this ∷ gs) ≤ 8) where
      low : Lies d (row_after this gs)
      low = lies d (row_after this gs) (own_row d n q (services (this ∷ gs)) few)

      pub there : (j : ℕ) → j < slot_count → (j ≡ base_at (row_after this gs) → ⊥) → slot j (stored (base_at (row_after this gs)) (header_slot s l) x) ≡ slot j x
      there j k e = stored_there x (base_at (row_after this gs)) (header_slot s l) t.long (let o = low in omega arith) j k e

      row_of : latest (row_after this gs) gs ≡ [] → (r : ℕ) → OwnRow d r → (b : Bool) → eqb r (row_after this gs) ≡ b → RowKeeps d file (stored (base_at (row_after this gs)) (header_slot s l) x) (base_at r) (group_at r) (cond b [] (latest r gs))
      row_of fresh r k true e = subst (λ (es : List Entry). RowKeeps d file (stored (base_at (row_after this gs)) (header_slot s l) x) (base_at r) (group_at r) es) (ap (λ (i : ℕ). latest i gs) (eqb-true r (row_after this gs) e) ∙ fresh) (kept r k)
        where
          kept : (r : ℕ) → OwnRow d r → RowKeeps d file (stored (base_at (row_after this gs)) (header_slot s l) x) (base_at r) (group_at r) (latest r gs)
          kept r k = row_kept (t.rows.each r k) (λ m y. there (base_at r + place m (key_names (group_at r))) (let o = lies d r k in omega (arith, keys_few (group_at r) m)) (λ e. y (let o = lies d r k in let w = low in omega (arith, e, keys_few (group_at r) m))))
      row_of fresh r k false e = row_kept (t.rows.each r k) (λ m y. there (base_at r + place m (key_names (group_at r))) (let o = lies d r k in omega (arith, keys_few (group_at r) m)) (λ e. y (let o = lies d r k in let w = low in omega (arith, e, keys_few (group_at r) m))))

      head_of : (r : ℕ) → OwnRow d r → (b : Bool) → eqb r (row_after this gs) ≡ b → slot (base_at r) (stored (base_at (row_after this gs)) (header_slot s l) x) ≡ cond b (header_slot s l) (head_slot r gs)
      head_of r k true e = rw (eqb-true r (row_after this gs) e) (stored_here x (base_at (row_after this gs)) (header_slot s l) t.long (let o = low in omega arith))
      head_of r k false e = there (base_at r) (let o = lies d r k in omega arith) (λ p. eqb-false r (row_after this gs) e (let o = lies d r k in let w = low in omega (arith, p))) ∙ t.heads r k

      pub table_headed : latest (row_after this gs) gs ≡ [] → 0 < l → name_given n gs ≡ false → TableKeeps d file (stored (base_at (row_after this gs)) (header_slot s l) x) (this ∷ gs)
      table_headed fresh k new =
          record {
            long = stored_long x (base_at (row_after this gs)) (header_slot s l) t.long (let o = low in omega arith);
            rows = record { few = few; well = (q, k, new, t.rows.well); each = λ r m. row_of fresh r m (eqb r (row_after this gs)) refl };
            heads = λ r m. head_of r m (eqb r (row_after this gs)) refl;
          }

-- ---- what is held after a header

module _ {d : Dialect} {file : List ℕ} {st : State} {x : List ℕ} {gs : List Section} (h : HoldsGroups d file st x gs) (n : List ℕ) (g : Group) (q : group_of d n ≡ Some g) (new : name_given n gs ≡ false) (s l : ℕ) (k : 0 < l) where
  abbrev header_section : Section
  header_section = record { name = n; group = g; line = l; start = s; entries = [] }

  module _ (v : serves g ≡ false) where
    plain_free : (b : Bool) → eqb (head_slot (row_number g 0) gs).line 0 ≡ b → latest (row_number g 0) gs ≡ []
    plain_free true e = (unnamed d n g q v gs h.table.rows.well (eqb-true (head_slot (row_number g 0) gs).line 0 e)).none
    plain_free false e = absurd (true≢false (sym (renamed d n g q v gs h.table.rows.well (eqb-false (head_slot (row_number g 0) gs).line 0 e)) ∙ new))

    next : services (header_section ∷ gs) ≡ st.services
    next = rw v (sym h.services)

    few : services (header_section ∷ gs) ≤ 8
    few = omega (arith, next, h.spans.few)

    service_other : (m : List ℕ) → group_of d m ≡ Some Service → same m n ≡ false
    service_other m e = go (same m n) refl
      where
        go : (b : Bool) → same m n ≡ b → b ≡ false
        go true p = absurd (true≢false (ap serves (same_Some Service g (sym e ∙ ap (group_of d) (same_eq m n p) ∙ q)) ∙ v))
        go false p = refl

    named : (i : ℕ) → i < st.services → slot (name_base + i) (stored (base_at (row_after header_section gs)) (header_slot s l) x) ≡ slot (name_base + i) x
    named i j = there h.table n g s l q few (name_base + i) (omega (arith, h.spans.few)) (λ e. let o = lies d (row_after header_section gs) (own_row d n q (services (header_section ∷ gs)) few) in omega (arith, e))

    pub holds_plain : {r : State} → r ≡ record { current = In g (base_at (row_number g st.services)); services = st.services; settings = st.settings } → HoldsGroups d file r (stored (base_at (row_number g st.services)) (header_slot s l) x) (record { name = n; group = g; line = l; start = s; entries = [] } ∷ gs)
    holds_plain {r} e =
        subst (λ (i : ℕ). HoldsGroups d file r (stored (base_at (row_number g i)) (header_slot s l) x) (header_section ∷ gs)) next
        (rw e
        (record {
          table = table_headed h.table n g s l q few (ap (λ (i : ℕ). latest i gs) (row_plain g v (services (header_section ∷ gs))) ∙ plain_free (eqb (head_slot (row_number g 0) gs).line 0) refl) k new;
          current = ap (λ (i : ℕ). In g (base_at (row_number g i))) (sym next);
          services = sym next;
          settings = omega (arith, h.settings);
          spans = spans_kept h.spans named;
          names = λ m y. among_kept file x (stored (base_at (row_after header_section gs)) (header_slot s l) x) st.services named m ∙ h.names m y ∙ rw (service_other m y);
        }))
