-- What a slot says of the setting that it keeps: what its value reads as, its line and its start; and the settings of a service by its number.
use Prim.Native.Nat.{ℕ, zero, suc, ◌+◌, ◌*◌, ◌≤◌}
use native.Mathlib.Omega.{arith}
use mathlib.Core.Path.{◌≡◌, refl, ap, sym, ◌∙◌, subst}
use mathlib.Core.Bool.{Bool, true, false, cond, ◌&&◌, true≢false}
use mathlib.Core.List.{List, [], ◌∷◌, ◌++◌, reverse, reverse-cons}
use Rattle.std.specs.Prelude.{Option, None, Some}
use borrow.Author.Tests.{eq-eqb, ne_eqb, eqb-true, eqb-false, le-leb}
use lib.Dec.{eqb}
use Rattle.text.specs.Parts.{part}
use Rattle.text.specs.Laws.{part_none}
use Rattle.text.specs.declared.Dialect.{Dialect}
use Rattle.text.specs.declared.Dialect.TheVariants.{ConnMan}
use Rattle.kinds.specs.declared.Kind.{Kind}
use Rattle.rules.specs.Asking.{first_or, service_at, read_as, entry_line, entry_start}
use Rattle.places.specs.Store.{last_row, row_length, Slot}
use Rattle.places.specs.History.{row_number, base, row_after, latest}
use Rattle.places.specs.Holds.{OfText, SlotKeeps, RowKeeps, TableKeeps}
use Rattle.rules.proofs.GoodEntries.{serves_service}
use Rattle.rules.specs.declared.Group.{Group}
use Rattle.rules.specs.declared.Group.TheVariants.{Settings, Security, Ipv4, Ipv6, Global, Service}
use Rattle.rules.specs.Sections.{Entry, Section, serves, services}
use Rattle.places.proofs.RowLaws.{group_at_lem}
use Rattle.places.proofs.Backwards.{services_reverse}

module _ (d : Dialect) (k : Option Kind) (file : List ℕ) (s : Slot) where
  -- a kind that reads nothing from no bytes
  pub kept_read : {A : Type 0} (f : List ℕ → Option A) → f [] ≡ None → OfText k → (o : Option Entry) → SlotKeeps d k file s o → f (part s.start s.end file) ≡ read_as f o
  kept_read f e t None q = rw (ap (λ (u : Slot). u.start) q, ap (λ (u : Slot). u.end) q, part_none file 0) e
  kept_read f e t (Some x) h = ap f (h.value t)

  pub kept_line : (o : Option Entry) → SlotKeeps d k file s o → s.line ≡ entry_line o
  kept_line None q = ap (λ (t : Slot). t.line) q
  kept_line (Some x) h = h.line

  pub kept_start : OfText k → (o : Option Entry) → SlotKeeps d k file s o → s.start ≡ entry_start o
  kept_start t None q = ap (λ (u : Slot). u.start) q
  kept_start t (Some x) h = h.start t

-- ---- a service by its number, the groups in file order and the latest first

-- the settings of service w, the groups the latest first
abbrev pub service_entries : ℕ → List Section → List Entry
service_entries w [] = []
service_entries w (s ∷ gs) = cond (serves s.group && eqb w (suc (services gs))) s.entries (service_entries w gs)

-- a number at the end of a list of services, or one of those before
abbrev last_or : Section → Bool → List Entry → List Entry
last_or g b rest = cond (serves g.group && b) g.entries rest

last_none : (g : Section) {b : Bool} (rest : List Entry) → b ≡ false → rest ≡ last_or g b rest
last_none g {b} rest e = rw e (go (serves g.group))
  where
    go : (t : Bool) → rest ≡ cond (t && false) g.entries rest
    go true = refl
    go false = refl

eqb_suc : (a b : ℕ) → eqb a b ≡ eqb (suc a) (suc b)
eqb_suc a b = go (eqb a b) refl
  where
    go : (t : Bool) → eqb a b ≡ t → t ≡ eqb (suc a) (suc b)
    go true e = sym (eq-eqb (suc a) (suc b) (ap suc (eqb-true a b e)))
    go false e = sym (ne_eqb (suc a) (suc b) (λ q. eqb-false a b e (omega (arith, q))))

service_last : (a : List Section) (w : ℕ) (g : Section) → service_at w (a ++ (g ∷ [])) ≡ last_or g (eqb w (suc (services a))) (service_at w a)
service_last a zero g = last_none g [] (ne_eqb 0 (suc (services a)) (λ q. omega (arith, q)))
service_last [] (suc zero) g = go (serves g.group)
  where
    go : (b : Bool) → cond b g.entries [] ≡ cond (b && true) g.entries []
    go true = refl
    go false = refl
service_last [] (suc (suc n)) g = go (serves g.group) ∙ last_none g [] (ne_eqb (suc (suc n)) 1 (λ q. omega (arith, q)))
  where
    go : (b : Bool) → ◌≡◌ {A = List Entry} (cond b [] []) []
    go true = refl
    go false = refl
service_last (x ∷ a) (suc n) g = go (serves x.group) n (service_last a n g) (service_last a (suc n) g)
  where
    go : (b : Bool) (n : ℕ) → service_at n (a ++ (g ∷ [])) ≡ last_or g (eqb n (suc (services a))) (service_at n a) → service_at (suc n) (a ++ (g ∷ [])) ≡ last_or g (eqb (suc n) (suc (services a))) (service_at (suc n) a) → cond b (first_or n x.entries (service_at n (a ++ (g ∷ [])))) (service_at (suc n) (a ++ (g ∷ []))) ≡ last_or g (eqb (suc n) (suc (cond b (suc (services a)) (services a)))) (cond b (first_or n x.entries (service_at n a)) (service_at (suc n) a))
    go false n p q = q
    go true zero p q = last_none g x.entries (ne_eqb 1 (suc (suc (services a))) (λ z. omega (arith, z)))
    go true (suc m) p q = p ∙ ap (λ (b : Bool). last_or g b (service_at (suc m) a)) (eqb_suc (suc m) (suc (services a)))

none_last : (w : ℕ) → [] ≡ service_at w []
none_last zero = refl
none_last (suc w) = refl

pub numbered_service : (w : ℕ) (gs : List Section) → service_entries w gs ≡ service_at w (reverse gs)
numbered_service w [] = none_last w
numbered_service w (g ∷ gs) = rw (reverse-cons g gs, service_last (reverse gs) w g, services_reverse gs) (ap (last_or g (eqb w (suc (services gs)))) (numbered_service w gs))

-- ---- the row of a service by its number

numbered_latest : (w : ℕ) → 1 ≤ w → (gs : List Section) → latest (4 + w) gs ≡ service_entries w gs
numbered_latest w l [] = refl
numbered_latest w l (s ∷ gs) = go (serves s.group) refl (numbered_latest w l gs)
  where
    plain : (g : Group) (n : ℕ) → serves g ≡ false → row_number g n ≤ 4
    plain Settings n v = omega arith
    plain Security n v = omega arith
    plain Ipv4 n v = omega arith
    plain Ipv6 n v = omega arith
    plain Global n v = omega arith
    plain Service n v = absurd (true≢false v)

    shifted : (n : ℕ) → eqb (4 + w) (4 + n) ≡ eqb w n
    shifted n = same (eqb w n) refl
      where
        same : (b : Bool) → eqb w n ≡ b → eqb (4 + w) (4 + n) ≡ b
        same true e = eq-eqb (4 + w) (4 + n) (ap (λ (i : ℕ). 4 + i) (eqb-true w n e))
        same false e = ne_eqb (4 + w) (4 + n) (λ q. eqb-false w n e (omega (arith, q)))

    go : (b : Bool) → serves s.group ≡ b → latest (4 + w) gs ≡ service_entries w gs → latest (4 + w) (s ∷ gs) ≡ service_entries w (s ∷ gs)
    go true v h = let g : s.group ≡ Service = serves_service s.group v in rw (g, shifted (suc (services gs)), h)
    go false v h = rw (ne_eqb (4 + w) (row_after s gs) (λ q. let p = plain s.group (services (s ∷ gs)) v in omega (arith, q, p, l)), v) h

pub numbered_row : {file x : List ℕ} {gs : List Section} → TableKeeps ConnMan file x gs → (w : ℕ) → (1 ≤ w) × (w ≤ 8) → RowKeeps ConnMan file x (base Service w) Service (service_entries w gs)
numbered_row {file} {x} {gs} t w l =
    subst (λ (es : List Entry). RowKeeps ConnMan file x (base Service w) Service es) (numbered_latest w l.0 gs)
    (subst (λ (g : Group). RowKeeps ConnMan file x (base Service w) g (latest (4 + w) gs)) (group_at_lem Service w (λ e. l.0)) (t.rows.each (4 + w) (omega arith, omega (arith, l.1))))

pub service_base : (n : ℕ) → base Service n ≡ row_length * n
service_base n = rw (le-leb 4 (4 + n) (omega arith)) (omega arith)

pub base_few : (g : Group) (n : ℕ) → n ≤ 8 → base g n ≤ last_row
base_few Settings n l = omega arith
base_few Security n l = omega arith
base_few Ipv4 n l = omega arith
base_few Ipv6 n l = omega arith
base_few Global n l = omega arith
base_few Service n l = omega (arith, service_base n)
