-- A run of a class at the front of a byte string, and what comes after it: together they are the whole.
use Rattle.std.specs.Prelude.{ℕ, suc, ◌≡◌, refl, Bool, true, false, cond, not, List, [], ◌∷◌, ◌++◌, take, drop}
use Rattle.std.proofs.Common.{arith, ap, sym, ◌∙◌}
use Rattle.std.proofs.lemmas.Bool.{false≢true}
use Rattle.text.specs.Parts.{lead, front, after, all, empty}
use Rattle.text.specs.Laws.{all_cons}

module _ (p : ℕ → Bool) where
  pub front_all : (s : List ℕ) → all p (front p s) ≡ true
  front_all [] = refl
  front_all (x ∷ s) = go (p x) refl (front_all s)
    where
      go : (b : Bool) → p x ≡ b → all p (front p s) ≡ true → all p (take (cond b (suc (lead p s)) 0) (x ∷ s)) ≡ true
      go true e h = rw e h
      go false e h = refl

  pub front_after : (s : List ℕ) → front p s ++ after p s ≡ s
  front_after [] = refl
  front_after (x ∷ s) = go (p x) (front_after s)
    where
      go : (b : Bool) → front p s ++ after p s ≡ s →
          take (cond b (suc (lead p s)) 0) (x ∷ s) ++ drop (cond b (suc (lead p s)) 0) (x ∷ s) ≡ x ∷ s
      go true h = ap (λ (r : List ℕ). x ∷ r) h
      go false h = refl

  pub after_all : (s : List ℕ) → all p s ≡ true → after p s ≡ []
  after_all [] h = refl
  after_all (x ∷ s) h = rw (all_cons p x s h).0 (after_all s (all_cons p x s h).1)

  pub after_stop : (s : List ℕ) (y : ℕ) (r : List ℕ) → after p s ≡ y ∷ r → p y ≡ false
  after_stop [] y r h = let z : ◌≡◌ {A = ℕ} 0 1 = cc in absurd (omega arith)
  after_stop (x ∷ s) y r h = go (p x) refl (after_stop s y r) h
    where
      go : (b : Bool) → p x ≡ b → (after p s ≡ y ∷ r → p y ≡ false) →
          drop (cond b (suc (lead p s)) 0) (x ∷ s) ≡ y ∷ r → p y ≡ false
      go true e f h = f h
      go false e f h = let q : x ≡ y = cc in ap p (sym q) ∙ e

-- a text is empty exactly when it is no byte long
pub cons_nil : {A : Type 0} (x : A) (s : List A) → ¬ (x ∷ s ≡ [])
cons_nil x s e = let z : ◌≡◌ {A = ℕ} 0 1 = cc in omega arith

pub some_empty : (s : List ℕ) → ¬ (s ≡ []) → empty s ≡ false
some_empty [] h = absurd (h refl)
some_empty (x ∷ s) h = refl

pub empty_some : (s : List ℕ) → not (empty s) ≡ true → ¬ (s ≡ [])
empty_some [] h e = false≢true h
empty_some (x ∷ s) h e = cons_nil x s e
