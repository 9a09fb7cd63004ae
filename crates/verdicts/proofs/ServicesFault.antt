-- The first fault of the services, row by row.
use Prim.Native.Nat.{ℕ, zero, suc, ◌+◌, ◌*◌, ◌≤◌, ◌<◌}
use native.Mathlib.Omega.{arith}
use mathlib.Core.Path.{◌≡◌, refl, ap, ap₂, sym, ◌∙◌, subst}
use mathlib.Core.Bool.{Bool, true, false, cond}
use mathlib.Core.List.{List, [], ◌∷◌, ◌++◌, reverse, reverse-cons}
use Rattle.std.specs.Prelude.{Option, None, Some}
use borrow.Author.Tests.{eq-eqb, ne_eqb, eqb-true, eqb-false}
use lib.Dec.{eqb}
use Rattle.text.specs.Options.{or_else}
use Rattle.text.specs.declared.Dialect.TheVariants.{ConnMan}
use Rattle.rules.specs.Sections.{Section, serves, services}
use Rattle.rules.specs.Faults.{fault_at}
use Rattle.rules.specs.declared.Fault.{Fault}
use Rattle.rules.specs.Groups.{section_fault, service_fault, services_fault}
use Rattle.rules.proofs.GoodEntries.{serves_service}
use Rattle.rules.specs.declared.Group.{Group}
use Rattle.rules.specs.declared.Group.TheVariants.{Settings, Security, Ipv4, Ipv6, Global, Service}
use Rattle.rules.specs.declared.Refusal.{Refusal}
use Rattle.places.specs.Store.{row_length, Slot, slot}
use Rattle.places.specs.History.{row_number, base_at, row_after, latest, head_slot}
use Rattle.places.specs.Holds.{RowKeeps, TableKeeps}
use Rattle.verdicts.specs.Closing.{slots_rule, slots_fault_at, slots_fault}
use Rattle.places.proofs.RowLaws.{lies, group_at_lem}
use Rattle.verdicts.proofs.RowRule.{row_rule}

-- ---- by the rows

abbrev row_fault : ℕ → List Section → Option Fault
row_fault r gs = fault_at (head_slot r gs).line (service_fault (latest r gs))

abbrev rows_fault : List Section → ℕ → Option Fault
rows_fault gs zero = None
rows_fault gs (suc n) = or_else (rows_fault gs n) (row_fault (4 + suc n) gs)

module _ {file x : List ℕ} {gs : List Section} (t : TableKeeps ConnMan file x gs) where
  row_fault_lem : (n : ℕ) → n < 8 → slots_fault_at x (row_length + row_length * n) ≡ row_fault (4 + suc n) gs
  row_fault_lem n l =
      let own : (4 ≤ 4 + suc n) × (4 + suc n < 13) = (omega arith, omega (arith, l)) in
      let at : row_length + row_length * n ≡ base_at (4 + suc n) = (let o = lies ConnMan (4 + suc n) own in omega arith) in
      rw (at, ap (λ (s : Slot). s.line) (t.heads (4 + suc n) own), row_rule (subst (λ (g : Group). RowKeeps ConnMan file x (base_at (4 + suc n)) g (latest (4 + suc n) gs)) (group_at_lem Service (suc n) (λ e. omega arith)) (t.rows.each (4 + suc n) own)))

  rows_fault_lem : (n : ℕ) → n ≤ 8 → slots_fault x n ≡ rows_fault gs n
  rows_fault_lem zero l = refl
  rows_fault_lem (suc n) l = ap₂ or_else (rows_fault_lem n (omega (arith, l))) (row_fault_lem n (omega (arith, l)))

-- ---- by the groups

-- the first fault of all services
abbrev pub all_fault : List Section → Option Fault
all_fault [] = None
all_fault (s ∷ gs) = or_else (all_fault gs) (section_fault s)

or_none : (o : Option Fault) → or_else o None ≡ o
or_none None = refl
or_none (Some f) = refl

row_other : (s : Section) (gs : List Section) (m : ℕ) → m < services gs → eqb (4 + suc m) (row_after s gs) ≡ false
row_other s gs m l = ne_eqb (4 + suc m) (row_after s gs) (λ e. go s.group e)
  where
    go : (g : Group) → 4 + suc m ≡ row_number g (cond (serves g) (suc (services gs)) (services gs)) → ⊥
    go Settings e = omega (arith, e)
    go Security e = omega (arith, e)
    go Ipv4 e = omega (arith, e)
    go Ipv6 e = omega (arith, e)
    go Global e = omega (arith, e)
    go Service e = omega (arith, e, l)

rows_older : (s : Section) (gs : List Section) (n : ℕ) → n ≤ services gs → rows_fault (s ∷ gs) n ≡ rows_fault gs n
rows_older s gs zero l = refl
rows_older s gs (suc n) l = ap₂ or_else (rows_older s gs n (omega (arith, l))) (rw (row_other s gs n (omega (arith, l))))

all_rows : (gs : List Section) → rows_fault gs (services gs) ≡ all_fault gs
all_rows [] = refl
all_rows (s ∷ gs) = go (serves s.group) refl (rows_older s gs (services gs) (omega arith) ∙ all_rows gs)
  where
    go : (b : Bool) → serves s.group ≡ b → rows_fault (s ∷ gs) (services gs) ≡ all_fault gs → rows_fault (s ∷ gs) (services (s ∷ gs)) ≡ or_else (all_fault gs) (section_fault s)
    go true v h =
        let g : s.group ≡ Service = serves_service s.group v in
        let here : eqb (4 + suc (services gs)) (row_after s gs) ≡ true = eq-eqb (4 + suc (services gs)) (row_after s gs) (rw g) in
        let more : services (s ∷ gs) ≡ suc (services gs) = rw v in
        ap (rows_fault (s ∷ gs)) more ∙ ap₂ or_else h (rw (here, v))
    go false v h =
        let same : services (s ∷ gs) ≡ services gs = rw v in
        ap (rows_fault (s ∷ gs)) same ∙ h ∙ sym (or_none (all_fault gs)) ∙ ap (or_else (all_fault gs)) (rw v)

pub services_fault_lem : {file x : List ℕ} {gs : List Section} → TableKeeps ConnMan file x gs → {n : ℕ} → n ≡ services gs → slots_fault x n ≡ all_fault gs
services_fault_lem {x = x} {gs = gs} t {n} e = ap (slots_fault x) e ∙ rows_fault_lem t (services gs) t.rows.few ∙ all_rows gs

-- ---- by the groups in file order

or_or : (a b c : Option Fault) → or_else a (or_else b c) ≡ or_else (or_else a b) c
or_or None b c = refl
or_or (Some f) b c = refl

fault_last : (a : List Section) (g : Section) → services_fault (a ++ (g ∷ [])) ≡ or_else (services_fault a) (section_fault g)
fault_last [] g = or_none (section_fault g)
fault_last (x ∷ a) g = ap (or_else (section_fault x)) (fault_last a g) ∙ or_or (section_fault x) (services_fault a) (section_fault g)

pub fault_reverse : (gs : List Section) → services_fault (reverse gs) ≡ all_fault gs
fault_reverse [] = refl
fault_reverse (g ∷ gs) = ap services_fault (reverse-cons g gs) ∙ fault_last (reverse gs) g ∙ ap (λ (o : Option Fault). or_else o (section_fault g)) (fault_reverse gs)

-- ---- the loop

fault_kept : (x : List ℕ) {f : Fault} (m n : ℕ) → slots_fault x m ≡ Some f → m ≤ n → slots_fault x n ≡ Some f
fault_kept x {f} m zero e l = let z : m ≡ 0 = omega arith in subst (λ (i : ℕ). slots_fault x i ≡ Some f) z e
fault_kept x {f} m (suc n) e l = go (eqb m (suc n)) refl (λ k. fault_kept x m n e k)
  where
    go : (b : Bool) → eqb m (suc n) ≡ b → (m ≤ n → slots_fault x n ≡ Some f) → slots_fault x (suc n) ≡ Some f
    go true q h = subst (λ (i : ℕ). slots_fault x i ≡ Some f) (eqb-true m (suc n) q) e
    go false q h = let z : (m ≡ suc n → ⊥) = eqb-false m (suc n) q in rw (h (omega (arith, z, l)))

module _ (x : List ℕ) (i : ℕ) (h : slots_fault x i ≡ None) {r : Option Refusal} (q : r ≡ slots_rule x (row_length + row_length * i)) where
  pub fault_broken : {f : Refusal} → r ≡ Some f → (n : ℕ) → i < n → {m : ℕ} → m ≡ (slot (row_length + row_length * i) x).line → Some (record { refusal = f; line = m }) ≡ slots_fault x n
  fault_broken {f} e n k {m} w =
      let here : slots_fault x (suc i) ≡ Some (record { refusal = f; line = m }) = rw (h, sym q ∙ e, w) in
      sym (fault_kept x (suc i) n here (omega (arith, k)))
