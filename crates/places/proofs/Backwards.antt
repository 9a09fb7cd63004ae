-- What is asked of the groups in file order, by the groups with the latest first.
use Prim.Native.Nat.{ℕ, suc, ◌+◌}
use native.Mathlib.Omega.{arith}
use mathlib.Core.Path.{◌≡◌, refl, ap, sym, ◌∙◌}
use mathlib.Core.Bool.{Bool, true, false, cond, ◌||◌, or_comm, or_assoc, true≢false}
use mathlib.Core.List.{List, [], ◌∷◌, ◌++◌, reverse, reverse-cons}
use lib.ListN.{length}
use Rattle.text.specs.Words.{same}
use Rattle.text.specs.Laws.{same_eq}
use Rattle.text.specs.declared.Dialect.{Dialect}
use Rattle.rules.specs.Sections.{Section, name_given, serves, services, entries_in, settings}
use Rattle.places.specs.Holds.{WellNamed}

-- ---- how many services, how many settings

services_last : (a : List Section) (g : Section) → services (a ++ (g ∷ [])) ≡ cond (serves g.group) (suc (services a)) (services a)
services_last [] g = refl
services_last (x ∷ a) g = go (serves x.group) (serves g.group) (services_last a g)
  where
    go : (b c : Bool) → services (a ++ (g ∷ [])) ≡ cond c (suc (services a)) (services a) → cond b (suc (services (a ++ (g ∷ [])))) (services (a ++ (g ∷ []))) ≡ cond c (suc (cond b (suc (services a)) (services a))) (cond b (suc (services a)) (services a))
    go true true h = ap suc h
    go true false h = ap suc h
    go false true h = h
    go false false h = h

pub services_reverse : (gs : List Section) → services (reverse gs) ≡ services gs
services_reverse [] = refl
services_reverse (g ∷ gs) = ap services (reverse-cons g gs) ∙ services_last (reverse gs) g ∙ ap (λ (n : ℕ). cond (serves g.group) (suc n) n) (services_reverse gs)

settings_last : (a : List Section) (g : Section) → settings (a ++ (g ∷ [])) ≡ length g.entries + settings a
settings_last [] g = refl
settings_last (x ∷ a) g = omega (arith, settings_last a g)

pub settings_reverse : (gs : List Section) → settings (reverse gs) ≡ settings gs
settings_reverse [] = refl
settings_reverse (g ∷ gs) = ap settings (reverse-cons g gs) ∙ settings_last (reverse gs) g ∙ ap (λ (n : ℕ). length g.entries + n) (settings_reverse gs)

-- ---- the settings of the group with a name

module _ (n : List ℕ) where
  named_last : (a : List Section) (g : Section) → name_given n (a ++ (g ∷ [])) ≡ (same n g.name || name_given n a)
  named_last [] g = refl
  named_last (x ∷ a) g = ap (λ (b : Bool). same n x.name || b) (named_last a g) ∙ sym (or_assoc (same n x.name) (same n g.name) (name_given n a)) ∙ ap (λ (b : Bool). b || name_given n a) (or_comm (same n x.name) (same n g.name)) ∙ or_assoc (same n g.name) (same n x.name) (name_given n a)

  named_reverse : (gs : List Section) → name_given n (reverse gs) ≡ name_given n gs
  named_reverse [] = refl
  named_reverse (g ∷ gs) = ap (name_given n) (reverse-cons g gs) ∙ named_last (reverse gs) g ∙ ap (λ (b : Bool). same n g.name || b) (named_reverse gs)

  entries_new : (a : List Section) (g : Section) → name_given n a ≡ false → same n g.name ≡ true → entries_in n (a ++ (g ∷ [])) ≡ g.entries
  entries_new [] g h e = rw e
  entries_new (x ∷ a) g h e = go (same n x.name) h (λ k. entries_new a g k e)
    where
      go : (b : Bool) → (b || name_given n a) ≡ false → (name_given n a ≡ false → entries_in n (a ++ (g ∷ [])) ≡ g.entries) → cond b x.entries (entries_in n (a ++ (g ∷ []))) ≡ g.entries
      go true k f = absurd (true≢false k)
      go false k f = f k

  entries_other : (a : List Section) (g : Section) → same n g.name ≡ false → entries_in n (a ++ (g ∷ [])) ≡ entries_in n a
  entries_other [] g e = rw e
  entries_other (x ∷ a) g e = ap (cond (same n x.name) x.entries) (entries_other a g e)

  pub entries_reverse : (d : Dialect) (gs : List Section) → WellNamed d gs → entries_in n (reverse gs) ≡ entries_in n gs
  entries_reverse d [] w = refl
  entries_reverse d (g ∷ gs) w = ap (entries_in n) (reverse-cons g gs) ∙ go (same n g.name) refl (entries_reverse d gs w.3)
    where
      go : (b : Bool) → same n g.name ≡ b → entries_in n (reverse gs) ≡ entries_in n gs → entries_in n (reverse gs ++ (g ∷ [])) ≡ cond b g.entries (entries_in n gs)
      go true e h = entries_new (reverse gs) g (named_reverse gs ∙ ap (λ (m : List ℕ). name_given m gs) (same_eq n g.name e) ∙ w.2) e
      go false e h = entries_other (reverse gs) g e ∙ h
