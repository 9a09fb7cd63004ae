-- A setting's line: one law for each return of `setting_line`.
use Prim.Native.Nat.{ℕ, ◌+◌, ◌<◌}
use native.Mathlib.Omega.{arith}
use mathlib.Core.Path.{◌≡◌, refl, ap, sym, ◌∙◌, subst}
use mathlib.Core.Bool.{Bool, not}
use mathlib.Core.List.{List, [], ◌∷◌}
use Rattle.std.specs.Prelude.{Option, None, Some, Result, Ok, Err, ok_or}
use Rattle.std.proofs.lemmas.Option.{none-some, same_Some}
use borrow.Author.Tests.{eq-eqb, ne_eqb}
use lib.Dec.{eqb}
use lib.ListN.{get_or}
use Rattle.text.specs.Parts.{part_at}
use Rattle.text.specs.Options.{mapped}
use Rattle.text.specs.Words.{place}
use Rattle.text.specs.declared.Dialect.{Dialect}
use Rattle.text.specs.declared.Place.{Place}
use Rattle.kinds.specs.Typed.{Judged, good, broken_text, broken_kind, judged}
use Rattle.kinds.specs.Answers.{judgement_at}
use Rattle.kinds.specs.declared.Kind.{Kind}
use Rattle.kinds.specs.declared.Value.{Value}
use Rattle.kinds.specs.declared.Broken.{Broken}
use Rattle.kinds.specs.declared.Broken.TheVariants as B
use Rattle.lines.specs.Lines.{setting}
use Rattle.rules.specs.Tables.{keys_of, kind_of}
use Rattle.rules.specs.Sections.{Entry, Section, given, entry_of}
use Rattle.rules.specs.Faults.{fault, key_fault, value_fault, broken_of}
use Rattle.tables.specs.KeyPlaces.{at_place, at_place_zero, at_place_named, key_names, listed_key}
use Rattle.rules.specs.declared.Group.{Group}
use Rattle.tables.specs.declared.Listed.{Listed}
use Rattle.rules.specs.declared.Refusal.{Refusal}
use Rattle.rules.specs.declared.Refusal.TheVariants.{NoGroup, UnknownKey, RepeatedKey}
use Rattle.places.specs.Store.{lines_from, slot}
use Rattle.places.specs.History.{name_base, base_at, row_after, current_of}
use Rattle.places.specs.Holds.{RowKeeps, RowsKeep}
use Rattle.reader.specs.Says.{SettingIs, CurrentRow, SettingSays}
use Rattle.places.specs.declared.Current.{Current}
use Rattle.places.specs.declared.Current.TheVariants.{Outside, In}
use Rattle.reader.specs.declared.Line.TheVariants.{Setting}
use Rattle.places.proofs.RowLaws.{given_entry, kept_given, keys_few, row_here}

-- a group in force is that of the latest section
pub record Head (gs : List Section) (g : Group) (b : ℕ) : Type 0 where
  pub section : Section
  pub rest : List Section
  pub is : gs ≡ section ∷ rest
  pub group : section.group ≡ g
  pub row : base_at (row_after section rest) ≡ b

pub head : (gs : List Section) {c : Current} {g : Group} {b : ℕ} → c ≡ current_of gs → c ≡ In g b → Head gs g b
head [] e q = let z : ◌≡◌ {A = ℕ} 0 1 = cc in absurd (omega arith)
head (s ∷ gs) e q = record { section = s; rest = gs; is = refl; group = cc; row = cc }

-- the settings of the group in force
abbrev in_force : List Section → List Entry
in_force [] = []
in_force (s ∷ gs) = s.entries

row_in_force : {d : Dialect} {file x : List ℕ} (gs : List Section) {g : Group} {b : ℕ} → Head gs g b → RowsKeep d file x gs → RowKeeps d file x b g (in_force gs)
row_in_force {d} {file} {x} gs {g} {b} h rows =
    subst (λ (t : List Section). RowKeeps d file x b g (in_force t)) (sym h.is)
    (subst (λ (t : Group). RowKeeps d file x b t h.section.entries) h.group
    (subst (λ (t : ℕ). RowKeeps d file x t h.section.group h.section.entries) h.row
    (row_here h.section h.rest (subst (λ (t : List Section). RowsKeep d file x t) h.is rows))))

listed_is : (m : ℕ) (o : Option Kind) {x : Listed} → mapped {U = Listed} (λ k. record { place = m; kind = k }) o ≡ Some x → (m ≡ x.place) × (o ≡ Some x.kind)
listed_is m None {x} e = absurd (none-some x e)
listed_is m (Some y) {x} e = let q = same_Some (record { place = m; kind = y }) x e in (ap (λ (l : Listed). l.place) q, ap (λ (l : Listed). Some l.kind) q)

listed_not : (m : ℕ) (o : Option Kind) → mapped {U = Listed} (λ k. record { place = m; kind = k }) o ≡ None → o ≡ None
listed_not m None e = refl
listed_not m (Some y) e = absurd (none-some (record { place = m; kind = y }) (sym e))

-- a key's listing, where a key that is not listed is refused
found : {A E : Type 0} (o : Option A) (e : E) {a : A} → ok_or o e ≡ Ok a → o ≡ Some a
found None e {a} q = let z : ◌≡◌ {A = ℕ} 0 1 = cc in absurd (omega arith)
found (Some b) e q = cc

missed : {A E : Type 0} (o : Option A) (e : E) {f : E} → ok_or o e ≡ Err f → (o ≡ None) × (f ≡ e)
missed None e q = (refl, cc)
missed (Some b) e {f} q = let z : ◌≡◌ {A = ℕ} 0 1 = cc in absurd (omega arith)

-- a key that has a kind has a place
kind_placed : (g : Group) (k : List ℕ) {x : Kind} → kind_of g k ≡ Some x → place k (key_names g) ≡ 0 → ⊥
kind_placed g k {x} e z = none-some x (sym (at_place_zero (keys_of g)) ∙ ap (λ (p : ℕ). at_place p (keys_of g)) (sym z) ∙ at_place_named k (keys_of g) ∙ e)

value_faulty : (p : Place) (y : Judged) {b : Broken} → judgement_at p y ≡ Err b → value_fault y ≡ Some (broken_of b)
value_faulty p (good t) e = let z : ◌≡◌ {A = ℕ} 0 1 = cc in absurd (omega arith)
value_faulty p broken_text {b} e = let w : B.Text ≡ b = cc in ap (λ (r : Broken). Some (broken_of r)) w
value_faulty p broken_kind {b} e = let w : B.Kind ≡ b = cc in ap (λ (r : Broken). Some (broken_of r)) w

value_good : (p : Place) (y : Judged) {v : Value} → judgement_at p y ≡ Ok v → value_fault y ≡ None
value_good p (good t) e = refl
value_good p broken_text e = let z : ◌≡◌ {A = ℕ} 0 1 = cc in absurd (omega arith)
value_good p broken_kind e = let z : ◌≡◌ {A = ℕ} 0 1 = cc in absurd (omega arith)

module _ (d : Dialect) (file x : List ℕ) (c : Current) (key value : Place) where
  pub setting_outside : c ≡ Outside → SettingSays d file x c key value (Err NoGroup)
  unfolding fault
  setting_outside q = record { says = λ gs e rows. go gs e }
    where
      go : (gs : List Section) → c ≡ current_of gs → SettingIs d file gs key value (Err NoGroup)
      go [] e = refl
      go (s ∷ gs) e = let z : ◌≡◌ {A = ℕ} 0 1 = cc in absurd (omega arith)

  module _ {g : Group} {b : ℕ} (q : c ≡ In g b) {r : Option Listed} (p : r ≡ listed_key g (part_at file key)) {t : Result Listed Refusal} (u : t ≡ ok_or r UnknownKey) where
    -- the fault by the key's kind and the settings of the group in force
    faulty : (gs : List Section) → c ≡ current_of gs → fault d gs (setting (part_at file key) (part_at file value)) ≡ key_fault d (part_at file key) (part_at file value) (kind_of g (part_at file key)) (in_force gs)
    unfolding fault
    faulty [] e = let z : ◌≡◌ {A = ℕ} 0 1 = cc in absurd (omega arith)
    faulty (s ∷ gs) e = let w : s.group ≡ g = cc in rw w

    pub setting_unknown : {f : Refusal} → t ≡ Err f → SettingSays d file x c key value (Err f)
    setting_unknown w =
        let m = missed r UnknownKey (sym u ∙ w) in
        rw m.1 (record { says = λ gs e rows. faulty gs e ∙ rw (listed_not (place (part_at file key) (key_names g)) (kind_of g (part_at file key)) (sym p ∙ m.0)) })

    module _ {listed : Listed} (w : t ≡ Ok listed) where
      known : (place (part_at file key) (key_names g) ≡ listed.place) × (kind_of g (part_at file key) ≡ Some listed.kind)
      known = listed_is (place (part_at file key) (key_names g)) (kind_of g (part_at file key)) (sym p ∙ found r UnknownKey (sym u ∙ w))

      placed : place (part_at file key) (key_names g) ≡ 0 → ⊥
      placed = kind_placed g (part_at file key) known.1

      whether : (gs : List Section) → RowKeeps d file x b g (in_force gs) → {t : Bool} → eqb (get_or x (lines_from + (b + listed.place)) 0) 0 ≡ t → given (part_at file key) (in_force gs) ≡ not t
      whether gs row {t} l =
          let at : eqb (get_or x (lines_from + (b + place (part_at file key) (key_names g))) 0) 0 ≡ t = rw known.0 l in
          given_entry (part_at file key) (in_force gs) ∙ kept_given d (kind_of g (part_at file key)) file (slot (b + place (part_at file key) (key_names g)) x) (entry_of (part_at file key) (in_force gs)) (row.each (part_at file key) placed) at

      pub slot_small : CurrentRow x c → b + listed.place < name_base
      slot_small h = omega (arith, h.row g b q, known.0, keys_few g (part_at file key))

      pub setting_repeated : (get_or x (lines_from + (b + listed.place)) 0 ≡ 0 → ⊥) → SettingSays d file x c key value (Err RepeatedKey)
      setting_repeated l = record { says = λ gs e rows. faulty gs e ∙ rw (known.1, whether gs (row_in_force gs (head gs e q) rows) (ne_eqb _ 0 l)) }

      module _ (l : get_or x (lines_from + (b + listed.place)) 0 ≡ 0) {j : Result Value Broken} (s : j ≡ judgement_at value (judged d listed.kind (part_at file value))) where
        judging : (gs : List Section) → c ≡ current_of gs → RowsKeep d file x gs → fault d gs (setting (part_at file key) (part_at file value)) ≡ value_fault (judged d listed.kind (part_at file value))
        judging gs e rows = faulty gs e ∙ rw (known.1, whether gs (row_in_force gs (head gs e q) rows) (eq-eqb _ 0 l))

        pub setting_faulty : {b : Broken} → j ≡ Err b → SettingSays d file x c key value (Err (broken_of b))
        setting_faulty v = record { says = λ gs e rows. judging gs e rows ∙ value_faulty value (judged d listed.kind (part_at file value)) (sym s ∙ v) }

        pub setting_good : {v : Value} → j ≡ Ok v → SettingSays d file x c key value (Ok (Setting (b + listed.place) v))
        setting_good v =
            record {
              says = λ gs e rows. (judging gs e rows ∙ value_good value (judged d listed.kind (part_at file value)) (sym s ∙ v), record { group = g; row = b; in_force_lem = sym e ∙ q; listed = placed; is = omega (arith, known.0); kind = listed.kind; of_kind = known.1; reads = sym s ∙ v });
            }
