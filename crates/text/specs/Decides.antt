-- A test that tells whether a thing holds, and the tests made of such tests.
use Rattle.std.specs.Prelude.{ℕ, ◌≡◌, refl, Bool, true, false, not, ◌&&◌, ◌||◌, List, ◌⊎◌}
use Rattle.std.proofs.Common.{ap, ◌∙◌, inl, inr}
use Rattle.std.proofs.lemmas.Bool.{false≢true}
use Rattle.text.specs.Words.{same}
use Rattle.text.specs.Laws.{same_refl, same_eq}

pub data Decides (P : Type 0) : Bool → Type 0 where
  holds : P → Decides P true
  fails : ¬ P → Decides P false

module _ {P : Type 0} where
  -- by both directions
  pub decides : (b : Bool) → (b ≡ true → P) → (P → b ≡ true) → Decides P b
  decides true f g = holds (f refl)
  decides false f g = fails (λ h. false≢true (g h))

  pub decides_not : {a : Bool} → Decides P a → Decides (¬ P) (not a)
  decides_not (holds h) = fails (λ k. k h)
  decides_not (fails h) = holds h

  module _ {Q : Type 0} where
    pub decides_alike : {a : Bool} → (P → Q) → (Q → P) → Decides P a → Decides Q a
    decides_alike f g (holds h) = holds (f h)
    decides_alike f g (fails h) = fails (λ k. h (g k))

    pub decides_and : {a b : Bool} → Decides P a → Decides Q b → Decides (P × Q) (a && b)
    decides_and (holds h) (holds k) = holds (h, k)
    decides_and (holds h) (fails k) = fails (λ (z : P × Q). k z.1)
    decides_and (fails h) (holds k) = fails (λ (z : P × Q). h z.0)
    decides_and (fails h) (fails k) = fails (λ (z : P × Q). h z.0)

    neither : ¬ P → ¬ Q → ¬ (P ⊎ Q)
    neither h k (inl p) = h p
    neither h k (inr q) = k q

    pub decides_or : {a b : Bool} → Decides P a → Decides Q b → Decides (P ⊎ Q) (a || b)
    decides_or (holds h) (holds k) = holds (inl h)
    decides_or (holds h) (fails k) = holds (inl h)
    decides_or (fails h) (holds k) = holds (inr k)
    decides_or (fails h) (fails k) = fails (neither h k)

-- two texts are the same
pub same_decides : (a b : List ℕ) → Decides (a ≡ b) (same a b)
same_decides a b = decides (same a b) (λ e. same_eq a b e) (λ e. ap (λ (m : List ℕ). same m b) e ∙ same_refl b)
