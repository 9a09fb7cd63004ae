-- Rows of the table of places: what a store does to the row it falls into, and to the others.
use Prim.Native.Nat.{ℕ, zero, suc, ◌+◌, ◌-◌, ◌*◌, ◌≤◌, ◌<◌}
use native.Mathlib.Omega.{arith}
use mathlib.Core.Path.{◌≡◌, refl, ap, sym, ◌∙◌, subst}
use mathlib.Core.Bool.{Bool, true, false, cond, not, ◌||◌, true≢false, false≢true}
use mathlib.Core.List.{List, [], ◌∷◌, ◌++◌}
use Rattle.std.specs.Prelude.{Option, None, Some}
use Rattle.std.proofs.lemmas.Option.{none-some, same_Some}
use borrow.Author.Tests.{eq-eqb, ne_eqb, le-leb, lt-leb}
use lib.Dec.{eqb}
use lib.ListN.{length}
use Rattle.text.specs.Words.{word, same, place, further}
use Rattle.text.specs.Options.{is_some, only}
use Rattle.text.specs.Laws.{same_eq, same_refl}
use Rattle.text.specs.declared.Dialect.{Dialect}
use Rattle.text.specs.declared.Dialect.TheVariants.{Iwd, ConnMan}
use Rattle.kinds.specs.declared.Kind.{Kind}
use Rattle.rules.specs.Tables.{keys_of, kind_of, is_service, group_of}
use Rattle.rules.specs.Sections.{Section, serves, services, Entry, given, entry_of}
use Rattle.tables.specs.KeyPlaces.{key_names}
use Rattle.rules.specs.declared.Group.{Group}
use Rattle.rules.specs.declared.Group.TheVariants.{Settings, Security, Ipv4, Ipv6, Global, Service}
use Rattle.places.specs.Store.{last_row, row_length, table_length, Slot, slot, stored}
use Rattle.places.specs.History.{row_number, base_at, OwnRow, group_at, row_after, latest}
use Rattle.places.specs.Holds.{SlotSays, SlotKeeps, RowKeeps, RowsKeep}
use Rattle.places.proofs.Slots.{stored_here, stored_there}

-- ---- places in a table of words

further_one : (p : ℕ) → further p ≡ 1 → ⊥
further_one zero e = omega (arith, e)
further_one (suc p) e = omega (arith, e)

further_inj : (p q : ℕ) → further p ≡ further q → p ≡ q
further_inj zero zero e = refl
further_inj zero (suc q) e = absurd (omega (arith, e))
further_inj (suc p) zero e = absurd (omega (arith, e))
further_inj (suc p) (suc q) e = omega (arith, e)

-- two words at one place are the same
pub place_inj : (k m : List ℕ) (t : List (List ℕ)) → place k t ≡ place m t → (place k t ≡ 0 → ⊥) → k ≡ m
place_inj k m [] e z = absurd (z refl)
place_inj k m (x ∷ t) e z = go (same k x) refl (same m x) refl (λ q y. place_inj k m t q y) e z
  where
    go : (a : Bool) → same k x ≡ a → (b : Bool) → same m x ≡ b → (place k t ≡ place m t → (place k t ≡ 0 → ⊥) → k ≡ m) → cond a 1 (further (place k t)) ≡ cond b 1 (further (place m t)) → (cond a 1 (further (place k t)) ≡ 0 → ⊥) → k ≡ m
    go true p true q f w y = same_eq k x p ∙ sym (same_eq m x q)
    go true p false q f w y = absurd (further_one (place m t) (sym w))
    go false p true q f w y = absurd (further_one (place k t) w)
    go false p false q f w y = f (further_inj (place k t) (place m t) w) (λ n. y (ap further n))

place_most : (k : List ℕ) (t : List (List ℕ)) → place k t ≤ length t
place_most k [] = omega arith
place_most k (x ∷ t) = go (same k x) (place k t) (place_most k t)
  where
    go : (a : Bool) (p : ℕ) → p ≤ length t → cond a 1 (further p) ≤ suc (length t)
    go true p h = omega arith
    go false zero h = omega arith
    go false (suc p) h = omega arith

few : (g : Group) → length (key_names g) ≤ 24
unfolding keys_of
few Settings = omega arith
few Security = omega arith
few Ipv4 = omega arith
few Ipv6 = omega arith
few Global = omega arith
few Service = omega arith

pub keys_few : (g : Group) (k : List ℕ) → place k (key_names g) < row_length
keys_few g k = let m : place k (key_names g) ≤ length (key_names g) = place_most k (key_names g) in omega (arith, m, few g)

-- ---- settings, one more

pub given_entry : (k : List ℕ) (es : List Entry) → given k es ≡ is_some (entry_of k es)
given_entry k [] = refl
given_entry k (x ∷ es) = go (same k x.key) (given_entry k es)
  where
    go : (b : Bool) → given k es ≡ is_some (entry_of k es) → (b || given k es) ≡ is_some (cond b (Some x) (entry_of k es))
    go true h = refl
    go false h = h

entry_other : (k : List ℕ) (x : Entry) (es : List Entry) → same k x.key ≡ false → entry_of k (es ++ (x ∷ [])) ≡ entry_of k es
entry_other k x [] h = rw h
entry_other k x (y ∷ es) h = ap (cond (same k y.key) (Some y)) (entry_other k x es h)

entry_new : (k : List ℕ) (x : Entry) (es : List Entry) → same k x.key ≡ true → given k es ≡ false → entry_of k (es ++ (x ∷ [])) ≡ Some x
entry_new k x [] h g = rw h
entry_new k x (y ∷ es) h g = go (same k y.key) refl (λ q. entry_new k x es h q)
  where
    go : (b : Bool) → same k y.key ≡ b → (given k es ≡ false → entry_of k (es ++ (x ∷ [])) ≡ Some x) → cond b (Some y) (entry_of k (es ++ (x ∷ []))) ≡ Some x
    go true q f = absurd (true≢false (rw q at g))
    go false q f = f (rw q at g)

-- whether a slot is taken says whether its key is given
pub kept_given : (d : Dialect) (k : Option Kind) (file : List ℕ) (s : Slot) (o : Option Entry) → SlotKeeps d k file s o → {b : Bool} → eqb s.line 0 ≡ b → is_some o ≡ not b
kept_given d k file s None h {b} e = go b (sym (ap (λ (t : Slot). eqb t.line 0) h) ∙ e)
  where
    go : (b : Bool) → true ≡ b → false ≡ not b
    go true q = refl
    go false q = absurd (true≢false q)
kept_given d k file s (Some x) h {b} e = go b (sym (ne_eqb s.line 0 (λ q. omega (arith, q, h.some))) ∙ e)
  where
    go : (b : Bool) → false ≡ b → true ≡ not b
    go true q = absurd (false≢true q)
    go false q = refl

-- ---- a store

module _ {d : Dialect} {file x : List ℕ} {b : ℕ} {g : Group} {es : List Entry} (h : RowKeeps d file x b g es) where
  -- slots that a change leaves as they were
  pub row_kept : {y : List ℕ} → ((k : List ℕ) → (place k (key_names g) ≡ 0 → ⊥) → slot (b + place k (key_names g)) y ≡ slot (b + place k (key_names g)) x) → RowKeeps d file y b g es
  row_kept {y} kept = record { each = λ k z. rw (kept k z) (h.each k z) }

  module _ (long : length x ≡ table_length) (k : List ℕ) (r : b ≤ last_row) (free : given k es ≡ false) where
    pub row_put : {e : Entry} {s : Slot} → e.key ≡ k → SlotSays d (kind_of g k) file s e → RowKeeps d file (stored (b + place k (key_names g)) s x) b g (es ++ (e ∷ []))
    row_put {e} {s} q w = record { each = λ m y. go m y (same m k) refl }
      where
        go : (m : List ℕ) → (place m (key_names g) ≡ 0 → ⊥) → (a : Bool) → same m k ≡ a → SlotKeeps d (kind_of g m) file (slot (b + place m (key_names g)) (stored (b + place k (key_names g)) s x)) (entry_of m (es ++ (e ∷ [])))
        go m y true p =
            let n : m ≡ k = same_eq m k p in
            rw (n, entry_new k e es (rw q (same_refl k)) free, stored_here x (b + place k (key_names g)) s long (omega (arith, r, keys_few g k))) w
        go m y false p =
            let v : (b + place m (key_names g) ≡ b + place k (key_names g) → ⊥) = λ v. true≢false (sym (same_refl k) ∙ rw (place_inj m k (key_names g) (omega (arith, v)) y) at p) in
            rw (entry_other m e es (rw q p), stored_there x (b + place k (key_names g)) s long (omega (arith, r, keys_few g k)) (b + place m (key_names g)) (omega (arith, r, keys_few g m)) v) (h.each m y)

-- ---- the rows of groups

pub group_at_lem : (g : Group) (n : ℕ) → (serves g ≡ true → 0 < n) → group_at (row_number g n) ≡ g
unfolding group_at
group_at_lem Settings n h = refl
group_at_lem Security n h = refl
group_at_lem Ipv4 n h = refl
group_at_lem Ipv6 n h = refl
group_at_lem Global n h = refl
group_at_lem Service n h =
    let p : 0 < n = h refl in
    rw (ne_eqb (4 + n) 0 (λ e. omega (arith, e, p)), ne_eqb (4 + n) 1 (λ e. omega (arith, e, p)), ne_eqb (4 + n) 2 (λ e. omega (arith, e, p)), ne_eqb (4 + n) 3 (λ e. omega (arith, e, p)), ne_eqb (4 + n) 4 (λ e. omega (arith, e, p)))

-- where a row of a dialect lies
abbrev pub first_row : Dialect → ℕ
first_row Iwd = 0
first_row ConnMan = 4

pub record Lies (d : Dialect) (r : ℕ) : Type 0 where
  pub is : base_at r ≡ row_length * (r - first_row d)
  pub low : first_row d ≤ r
  pub high : r < first_row d + 9

pub lies : (d : Dialect) (r : ℕ) → OwnRow d r → Lies d r
lies Iwd r h = record { is = rw (lt-leb 4 r h) (omega arith); low = omega arith; high = omega (arith, h) }
lies ConnMan r h = record { is = rw (le-leb 4 r h.0); low = h.0; high = omega (arith, h.1) }

pub own_row : (d : Dialect) (n : List ℕ) {g : Group} → group_of d n ≡ Some g → (m : ℕ) → m ≤ 8 → OwnRow d (row_number g m)
unfolding group_of
own_row Iwd n {g} e m l = go (same n (word "Settings")) (same n (word "Security")) (same n (word "IPv4")) (same n (word "IPv6")) e
  where
    go : (a b c f : Bool) → cond a (Some Settings) (cond b (Some Security) (cond c (Some Ipv4) (cond f (Some Ipv6) None))) ≡ Some g → row_number g m < 4
    go true b c f k = subst (λ (h : Group). row_number h m < 4) (same_Some Settings g k) (omega arith)
    go false true c f k = subst (λ (h : Group). row_number h m < 4) (same_Some Security g k) (omega arith)
    go false false true f k = subst (λ (h : Group). row_number h m < 4) (same_Some Ipv4 g k) (omega arith)
    go false false false true k = subst (λ (h : Group). row_number h m < 4) (same_Some Ipv6 g k) (omega arith)
    go false false false false k = absurd (none-some g k)
own_row ConnMan n {g} e m l = go (same n (word "global")) (is_service n) e
  where
    go : (a b : Bool) → cond a (Some Global) (only b (Some Service)) ≡ Some g → (4 ≤ row_number g m) × (row_number g m < 13)
    go true b k = subst (λ (h : Group). (4 ≤ row_number h m) × (row_number h m < 13)) (same_Some Global g k) (omega arith, omega arith)
    go false true k = subst (λ (h : Group). (4 ≤ row_number h m) × (row_number h m < 13)) (same_Some Service g k) (omega arith, omega arith)
    go false false k = absurd (none-some g k)

module _ (s : Section) (gs : List Section) where
  pub group_after : group_at (row_after s gs) ≡ s.group
  group_after = group_at_lem s.group (services (s ∷ gs)) (λ e. rw e (omega arith))

  pub latest_here : latest (row_after s gs) (s ∷ gs) ≡ s.entries
  latest_here = rw (eq-eqb (row_after s gs) (row_after s gs) refl)

  -- the row of the group in force
  pub row_here : {d : Dialect} {file x : List ℕ} → RowsKeep d file x (s ∷ gs) → RowKeeps d file x (base_at (row_after s gs)) s.group s.entries
  row_here {d} {file} {x} h =
      subst (λ (g : Group). RowKeeps d file x (base_at (row_after s gs)) g s.entries) group_after
      (subst (λ (es : List Entry). RowKeeps d file x (base_at (row_after s gs)) (group_at (row_after s gs)) es) latest_here
      (h.each (row_after s gs) (own_row d s.name h.well.0 (services (s ∷ gs)) h.few)))
