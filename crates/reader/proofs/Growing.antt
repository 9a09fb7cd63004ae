-- What the state and the table of places hold after a good setting.
use Prim.Native.Nat.{ℕ, zero, suc, ◌+◌, ◌≤◌, ◌<◌}
use native.Mathlib.Omega.{arith}
use mathlib.Core.Path.{◌≡◌, refl, ap, ap₂, sym, ◌∙◌, subst}
use mathlib.Core.Bool.{Bool, true, false, cond, ◌||◌}
use mathlib.Core.List.{List, [], ◌∷◌, ◌++◌}
use borrow.Author.Tests.{eqb-true, eqb-false}
use lib.Dec.{eqb}
use lib.ListN.{length, length-append}
use Rattle.text.specs.Parts.{part}
use Rattle.text.specs.Words.{same, place}
use Rattle.text.specs.declared.Dialect.{Dialect}
use Rattle.rules.specs.Tables.{kind_of}
use Rattle.rules.specs.Sections.{services, Entry, Section, given, with_entry}
use Rattle.tables.specs.KeyPlaces.{key_names}
use Rattle.rules.specs.declared.Group.{Group}
use Rattle.places.specs.Store.{slot_count, Slot, slot, stored}
use Rattle.places.specs.History.{name_base, base_at, OwnRow, group_at, row_after, latest}
use Rattle.places.specs.Holds.{SlotSays, RowKeeps, Spans, among, HoldsGroups}
use Rattle.places.specs.declared.State.{State}
use Rattle.places.proofs.Slots.{stored_long, stored_there}
use Rattle.places.proofs.RowLaws.{keys_few, row_kept, row_put, Lies, lies, own_row, group_after, row_here}

-- ---- names of services, where their slots are left as they were

pub among_kept : (file x y : List ℕ) (n : ℕ) → ((i : ℕ) → i < n → slot (name_base + i) y ≡ slot (name_base + i) x) → (w : List ℕ) → among file y n w ≡ among file x n w
among_kept file x y zero h w = refl
among_kept file x y (suc n) h w = ap₂ ◌||◌ (ap (λ (s : Slot). same w (part s.start s.end file)) (h n (omega arith))) (among_kept file x y n (λ i k. h i (omega arith)) w)

pub spans_kept : {file x y : List ℕ} {n : ℕ} → Spans file x n → ((i : ℕ) → i < n → slot (name_base + i) y ≡ slot (name_base + i) x) → Spans file y n
spans_kept {file} s h = record { few = s.few; each = λ i k. subst (λ (t : Slot). (t.start ≤ t.end) × (t.end ≤ length file)) (sym (h i k)) (s.each i k) }

-- ---- a setting in the group of the latest section

module _ {d : Dialect} {file : List ℕ} {st : State} {x : List ℕ} {s : Section} {gs : List Section} (h : HoldsGroups d file st x (s ∷ gs)) (k : List ℕ) (z : place k (key_names s.group) ≡ 0 → ⊥) (p : Slot) where
  abbrev here : ℕ
  here = base_at (row_after s gs) + place k (key_names s.group)

  low : Lies d (row_after s gs)
  low = lies d (row_after s gs) (own_row d s.name h.table.rows.well.0 (services (s ∷ gs)) h.table.rows.few)

  small : here < name_base
  small = let o = low in omega (arith, keys_few s.group k)

  there : (j : ℕ) → j < slot_count → (j ≡ here → ⊥) → slot j (stored here p x) ≡ slot j x
  there j r n = stored_there x here p h.table.long (omega (arith, small)) j r n

  named : (i : ℕ) → i < st.services → slot (name_base + i) (stored here p x) ≡ slot (name_base + i) x
  named i j = there (name_base + i) (omega (arith, h.spans.few)) (λ t. omega (arith, t, small))

  module _ {e : Entry} (q : e.key ≡ k) (f : SlotSays d (kind_of s.group k) file p e) (u : given k s.entries ≡ false) where
    row_of : (r : ℕ) → OwnRow d r → (b : Bool) → eqb r (row_after s gs) ≡ b → RowKeeps d file x (base_at r) (group_at r) (cond b s.entries (latest r gs)) → RowKeeps d file (stored here p x) (base_at r) (group_at r) (cond b (s.entries ++ (e ∷ [])) (latest r gs))
    row_of r l true v row =
        subst (λ (t : ℕ). RowKeeps d file (stored here p x) (base_at t) (group_at t) (s.entries ++ (e ∷ []))) (sym (eqb-true r (row_after s gs) v))
        (subst (λ (g : Group). RowKeeps d file (stored here p x) (base_at (row_after s gs)) g (s.entries ++ (e ∷ []))) (sym (group_after s gs))
        (row_put (row_here s gs h.table.rows) h.table.long k (let o = low in omega arith) u q f))
    row_of r l false v row = row_kept row (λ m y. there (base_at r + place m (key_names (group_at r))) (let o = lies d r l in omega (arith, keys_few (group_at r) m)) (λ t. eqb-false r (row_after s gs) v (let o = lies d r l in let q = low in omega (arith, t, keys_few (group_at r) m, keys_few s.group k))))

    pub holds_setting : {r : State} → r ≡ record { current = st.current; services = st.services; settings = st.settings + 1 } → HoldsGroups d file r (stored here p x) (with_entry e (s ∷ gs))
    holds_setting v =
        rw v
        (record {
          table = record {
            long = stored_long x here p h.table.long (omega (arith, small));
            rows = record { few = h.table.rows.few; well = h.table.rows.well; each = λ r l. row_of r l (eqb r (row_after s gs)) refl (h.table.rows.each r l) };
            heads = λ r l. there (base_at r) (let o = lies d r l in omega arith) (λ t. z (let o = lies d r l in let q = low in omega (arith, t, keys_few s.group k))) ∙ h.table.heads r l;
          };
          current = h.current;
          services = h.services;
          settings = omega (arith, h.settings, length-append s.entries (e ∷ []));
          spans = spans_kept h.spans named;
          names = λ n y. among_kept file x (stored here p x) st.services named n ∙ h.names n y;
        })
