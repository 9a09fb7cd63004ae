-- A group that is no service: its one name, its row, and the settings in it.
use Prim.Native.Nat.{ℕ}
use native.Mathlib.Omega.{arith}
use mathlib.Core.Path.{◌≡◌, refl, ap, sym, ◌∙◌, subst}
use mathlib.Core.Bool.{Bool, true, false, cond, true≢false}
use mathlib.Core.List.{List, [], ◌∷◌, reverse}
use Rattle.std.specs.Prelude.{None, Some}
use Rattle.std.proofs.lemmas.Option.{none-some, same_Some}
use borrow.Author.Tests.{eqb-true, eqb-false}
use lib.Dec.{eqb}
use Rattle.text.specs.Words.{word, same}
use Rattle.text.specs.Options.{only}
use Rattle.text.specs.OptionLaws.{only_some}
use Rattle.text.specs.Laws.{same_eq, same_refl}
use Rattle.text.specs.declared.Dialect.{Dialect}
use Rattle.text.specs.declared.Dialect.TheVariants.{Iwd, ConnMan}
use Rattle.rules.specs.Tables.{is_service, group_of}
use Rattle.rules.specs.ListedValues.{group_name}
use Rattle.rules.specs.Sections.{entries_in, Entry, Section, serves, services}
use Rattle.rules.specs.declared.Group.{Group}
use Rattle.rules.specs.declared.Group.TheVariants.{Settings, Security, Ipv4, Ipv6, Global, Service}
use Rattle.places.specs.History.{base, row_number, group_at, row_after, latest}
use Rattle.places.specs.Holds.{RowKeeps, WellNamed, TableKeeps}
use Rattle.places.proofs.RowLaws.{group_at_lem, own_row, group_after}
use Rattle.places.proofs.Backwards.{entries_reverse}

-- ---- its name

iwd_named : (n : List ℕ) {g : Group} → group_of Iwd n ≡ Some g → n ≡ group_name g
unfolding group_of
iwd_named n {g} e = go (same n (word "Settings")) refl (same n (word "Security")) refl (same n (word "IPv4")) refl (same n (word "IPv6")) refl e
  where
    go : (a : Bool) → same n (word "Settings") ≡ a → (b : Bool) → same n (word "Security") ≡ b → (c : Bool) → same n (word "IPv4") ≡ c → (f : Bool) → same n (word "IPv6") ≡ f → cond a (Some Settings) (cond b (Some Security) (cond c (Some Ipv4) (cond f (Some Ipv6) None))) ≡ Some g → n ≡ group_name g
    go true p b q c r f t k = same_eq n (word "Settings") p ∙ ap group_name (same_Some Settings g k)
    go false p true q c r f t k = same_eq n (word "Security") q ∙ ap group_name (same_Some Security g k)
    go false p false q true r f t k = same_eq n (word "IPv4") r ∙ ap group_name (same_Some Ipv4 g k)
    go false p false q false r true t k = same_eq n (word "IPv6") t ∙ ap group_name (same_Some Ipv6 g k)
    go false p false q false r false t k = absurd (none-some g k)

connman_named : (n : List ℕ) {g : Group} → group_of ConnMan n ≡ Some g → serves g ≡ false → n ≡ group_name g
unfolding group_of
connman_named n {g} e s = go (same n (word "global")) refl e
  where
    go : (a : Bool) → same n (word "global") ≡ a → cond a (Some Global) (only (is_service n) (Some Service)) ≡ Some g → n ≡ group_name g
    go true p k = same_eq n (word "global") p ∙ ap group_name (same_Some Global g k)
    go false p k = absurd (true≢false (ap serves (same_Some Service g (only_some (is_service n) (Some Service) k).1) ∙ s))

pub one_name : (d : Dialect) (n : List ℕ) {g : Group} → group_of d n ≡ Some g → serves g ≡ false → n ≡ group_name g
one_name Iwd n e s = iwd_named n e
one_name ConnMan n e s = connman_named n e s

-- ---- its row

pub row_plain : (g : Group) → serves g ≡ false → (n : ℕ) → row_number g n ≡ row_number g 0
row_plain Settings v n = refl
row_plain Security v n = refl
row_plain Ipv4 v n = refl
row_plain Ipv6 v n = refl
row_plain Global v n = refl
row_plain Service v n = absurd (true≢false v)

module _ (d : Dialect) (n : List ℕ) (g : Group) (q : group_of d n ≡ Some g) (v : serves g ≡ false) where
  pub same_row : (s : Section) (gs : List Section) → eqb (row_number g 0) (row_after s gs) ≡ true → s.group ≡ g
  same_row s gs e = sym (group_after s gs) ∙ ap group_at (sym (eqb-true (row_number g 0) (row_after s gs) e)) ∙ group_at_lem g 0 (λ t. absurd (true≢false (sym t ∙ v)))

  pub other_row : (s : Section) (gs : List Section) → eqb (row_number g 0) (row_after s gs) ≡ false → s.group ≡ g → ⊥
  other_row s gs e t = eqb-false (row_number g 0) (row_after s gs) e (sym (row_plain g v (services (s ∷ gs))) ∙ ap (λ (h : Group). row_number h (services (s ∷ gs))) (sym t))

  pub other_name : (m : List ℕ) {h : Group} → group_of d m ≡ Some h → (h ≡ g → ⊥) → same n m ≡ false
  other_name m {h} e k = go (same n m) refl
    where
      go : (b : Bool) → same n m ≡ b → b ≡ false
      go true p = absurd (k (same_Some h g (sym e ∙ ap (group_of d) (sym (same_eq n m p)) ∙ q)))
      go false p = refl

  -- the settings of the group with a name are those of its row
  pub entries_latest : (gs : List Section) → WellNamed d gs → n ≡ group_name g → entries_in n gs ≡ latest (row_number g 0) gs
  entries_latest [] w t = refl
  entries_latest (s ∷ gs) w t = go (eqb (row_number g 0) (row_after s gs)) refl (entries_latest gs w.3 t)
    where
      go : (b : Bool) → eqb (row_number g 0) (row_after s gs) ≡ b → entries_in n gs ≡ latest (row_number g 0) gs → cond (same n s.name) s.entries (entries_in n gs) ≡ cond b s.entries (latest (row_number g 0) gs)
      go true p h = rw (one_name d s.name (w.0 ∙ ap Some (same_row s gs p)) v, t, same_refl (group_name g))
      go false p h = rw (other_name s.name w.0 (other_row s gs p)) h

-- the row of a group that stands once
pub group_row : {d : Dialect} {file x : List ℕ} {gs : List Section} → TableKeeps d file x gs → (g : Group) → group_of d (group_name g) ≡ Some g → serves g ≡ false → RowKeeps d file x (base g 0) g (entries_in (group_name g) (reverse gs))
group_row {d} {file} {x} {gs} t g q v =
    subst (λ (es : List Entry). RowKeeps d file x (base g 0) g es) (sym (entries_reverse (group_name g) d gs t.rows.well ∙ entries_latest d (group_name g) g q v gs t.rows.well refl))
    (subst (λ (h : Group). RowKeeps d file x (base g 0) h (latest (row_number g 0) gs)) (group_at_lem g 0 (λ e. absurd (true≢false (sym e ∙ v)))) (t.rows.each (row_number g 0) (own_row d (group_name g) q 0 (omega arith))))
