-- A header's step: what is held after a good one, and the fault of any other.
use Prim.Native.Nat.{ℕ, ◌+◌, ◌<◌}
use native.Mathlib.Omega.{arith}
use mathlib.Core.Path.{◌≡◌, refl, ap, sym, ◌∙◌, subst}
use mathlib.Core.Bool.{Bool, true, false, cond, ◌&&◌, true≢false}
use mathlib.Core.List.{List, [], ◌∷◌}
use Rattle.std.specs.Prelude.{Option, None, Some, Result, Ok, Err}
use Rattle.std.proofs.lemmas.Option.{none-some}
use borrow.Author.Tests.{leb-false}
use lib.Dec.{leb}
use lib.ListN.{length}
use Rattle.text.specs.Parts.{part_at, Inside}
use Rattle.text.specs.declared.Dialect.{Dialect}
use Rattle.text.specs.declared.Place.{Place}
use Rattle.lines.specs.Lines as Lines
use Rattle.rules.specs.Tables.{group_of}
use Rattle.rules.specs.Sections.{Section, name_given, serves, services, with_line}
use Rattle.rules.specs.Faults.{header_fault, fault}
use Rattle.rules.proofs.GoodEntries.{serves_service}
use Rattle.rules.specs.declared.Group.{Group}
use Rattle.rules.specs.declared.Group.TheVariants.{Service}
use Rattle.rules.specs.declared.Refusal.{Refusal}
use Rattle.rules.specs.declared.Refusal.TheVariants.{RepeatedGroup, ManyServices}
use Rattle.places.specs.Store.{stored}
use Rattle.places.specs.History.{base, name_base}
use Rattle.places.specs.Holds.{HoldsGroups}
use Rattle.reader.specs.Headings.{slots_named, slots_heading}
use Rattle.reader.specs.Steps.{header_slot, name_slot, Opened, StepSays}
use Rattle.places.specs.declared.State.{State}
use Rattle.places.specs.declared.Current.TheVariants.{In}
use Rattle.reader.proofs.PlainHeading.{holds_plain}
use Rattle.reader.proofs.ServiceHeading.{holds_service}
use Rattle.reader.proofs.HeadingFault.{heading_fault, heading_fault_lem}

-- ---- what is stored

module _ {st : State} {x : List ℕ} {g : Group} {s : ℕ} {p : Place} {l : ℕ} {r : State} {y : List ℕ} where
  pub opened_service : serves g ≡ true → y ≡ stored (name_base + st.services) (name_slot p l) (stored (base g (st.services + 1)) (header_slot s l) x) → r ≡ record { current = In g (base g (st.services + 1)); services = st.services + 1; settings = st.settings } → Opened st x g s p l r y
  opened_service v b e = record { plain = λ q. absurd (true≢false (sym v ∙ q)); service = λ q. (b, e) }

  pub opened_plain : serves g ≡ false → y ≡ stored (base g st.services) (header_slot s l) x → r ≡ record { current = In g (base g st.services); services = st.services; settings = st.settings } → Opened st x g s p l r y
  opened_plain v b e = record { plain = λ q. (b, e); service = λ q. absurd (true≢false (sym q ∙ v)) }

pub room_few : {a : Bool} (n : ℕ) → a ≡ true → (a && leb 8 n) ≡ false → n < 8
room_few n e q = leb-false 8 n (rw e at q)

-- ---- a header that opens a group

pub record Good (n : ℕ) (o : Option Group) (g : Group) : Type 0 where
  pub is : o ≡ Some g
  pub room : (serves g && leb 8 n) ≡ false

pub heading_good : (file x : List ℕ) (n : ℕ) (name : List ℕ) (o : Option Group) {g : Group} → slots_heading file x n name o ≡ Ok g → Good n o g
heading_good file x n name None {g} e = let z : ◌≡◌ {A = ℕ} 0 1 = cc in absurd (omega arith)
heading_good file x n name (Some h) {g} e = go (slots_named file x n name h) (serves h && leb 8 n) refl e
  where
    go : (a b : Bool) → (serves h && leb 8 n) ≡ b → cond a (Err RepeatedGroup) (cond b (Err ManyServices) (Ok h)) ≡ Ok g → Good n (Some h) g
    go true b q k = let z : ◌≡◌ {A = ℕ} 0 1 = cc in absurd (omega arith)
    go false true q k = let z : ◌≡◌ {A = ℕ} 0 1 = cc in absurd (omega arith)
    go false false q k = let t : h ≡ g = cc in subst (λ (i : Group). Good n (Some h) i) t (record { is = refl; room = q })

new_name_lem : (n : List ℕ) (g : Group) (gs : List Section) → header_fault n (Some g) gs ≡ None → name_given n gs ≡ false
new_name_lem n g gs = go (name_given n gs) (serves g && leb 8 (services gs))
  where
    go : (a b : Bool) → cond a (Some RepeatedGroup) (cond b (Some ManyServices) None) ≡ None → a ≡ false
    go true b e = absurd (none-some RepeatedGroup (sym e))
    go false b e = refl

-- ---- the step

module _ {d : Dialect} {file : List ℕ} {st : State} {x : List ℕ} {s l : ℕ} {p : Place} (inside : Inside (length file) p) (k : 0 < l) {gs : List Section} (h : HoldsGroups d file st x gs) {g : Group} (q : group_of d (part_at file p) ≡ Some g) (new : name_given (part_at file p) gs ≡ false) (room : (serves g && leb 8 st.services) ≡ false) {r : State} {y : List ℕ} (o : Opened st x g s p l r y) where
  held : (b : Bool) → serves g ≡ b → HoldsGroups d file r y (record { name = part_at file p; group = g; line = l; start = s; entries = [] } ∷ gs)
  held true v =
      let t : g ≡ Service = serves_service g v in
      rw ((o.service v).0, t) (holds_service h p (q ∙ ap Some t) new s l k (room_few st.services v room) inside ((o.service v).1 ∙ rw t))
  held false v = rw (o.plain v).0 (holds_plain h (part_at file p) g q new s l k v (o.plain v).1)

module _ (d : Dialect) (file : List ℕ) (st : State) (x : List ℕ) (p : Place) {t : Result Group Refusal} (e : t ≡ slots_heading file x st.services (part_at file p) (group_of d (part_at file p))) where
  fault_is : (gs : List Section) → HoldsGroups d file st x gs → fault d gs (Lines.header (part_at file p)) ≡ heading_fault t
  fault_is gs h = sym (heading_fault_lem h (part_at file p)) ∙ ap heading_fault (sym e)

  pub header_stops : {s l : ℕ} {r : Refusal} {y : List ℕ} → t ≡ Err r → StepSays d file st x l s 0 (Lines.header (part_at file p)) y (Err r)
  header_stops v = record { says = λ gs h. fault_is gs h ∙ ap heading_fault v }

  module _ {g : Group} (v : t ≡ Ok g) where
    pub header_good : Good st.services (group_of d (part_at file p)) g
    header_good = heading_good file x st.services (part_at file p) (group_of d (part_at file p)) (sym e ∙ v)

    pub header_goes : {s l : ℕ} → Inside (length file) p → 0 < l → {r : State} {y : List ℕ} → Opened st x g s p l r y → StepSays d file st x l s 0 (Lines.header (part_at file p)) y (Ok r)
    unfolding fault with_line
    header_goes inside k o =
        record {
          says = λ gs h.
              let good : fault d gs (Lines.header (part_at file p)) ≡ None = fault_is gs h ∙ ap heading_fault v in
              let free : header_fault (part_at file p) (Some g) gs ≡ None = ap (λ (m : Option Group). header_fault (part_at file p) m gs) (sym header_good.is) ∙ good in
              (good, rw header_good.is (held inside k h header_good.is (new_name_lem (part_at file p) g gs free) header_good.room o (serves g) refl));
        }
