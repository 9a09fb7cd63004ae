-- What a reading that succeeds says of its parts.
use Rattle.std.specs.Prelude.{◌≡◌, refl, Bool, true, false, cond, List, [], ◌∷◌, ◌++◌, ℕ, length, Option, None, Some}
use Rattle.std.proofs.Common.{ap, sym, subst, true≢false, append_assoc}
use Rattle.std.proofs.lemmas.Bool.{false≢true}
use Rattle.std.proofs.lemmas.Option.{same_Some, none-some}
use Rattle.text.specs.Bytes.{between}
use Rattle.text.specs.Options.{is_some, mapped, and_then, only, sized, prepend, glue, each}
use Rattle.text.specs.Relations.{Sized, Pairwise}
use Rattle.text.specs.Laws.{inside, between_low, between_high}

module _ {A : Type 0} where
  pub some_is : (o : Option A) → is_some o ≡ true → (a : A) × (o ≡ Some a)
  some_is None h = absurd (false≢true h)
  some_is (Some a) h = (a, refl)

  pub none_is : (o : Option A) → is_some o ≡ false → o ≡ None
  none_is None h = refl
  none_is (Some a) h = absurd (true≢false h)

  pub only_some : (b : Bool) (o : Option A) {a : A} → only b o ≡ Some a → (b ≡ true) × (o ≡ Some a)
  only_some true o e = (refl, e)
  only_some false o {a} e = absurd (none-some a e)

  pub then_some : {B : Type 0} (o : Option A) (f : A → Option B) {b : B} → and_then o f ≡ Some b →
      (a : A) × (o ≡ Some a) × (f a ≡ Some b)
  then_some None f {b} e = absurd (none-some b e)
  then_some (Some a) f e = (a, refl, e)

  pub sized_some : (m n : ℕ) (o : Option (List A)) {t : List A} → sized m n o ≡ Some t →
      (between m n (length t) ≡ true) × (o ≡ Some t)
  sized_some m n None {t} e = absurd (none-some t e)
  sized_some m n (Some u) {t} e = go (between m n (length u)) refl e
    where
      go : (b : Bool) → between m n (length u) ≡ b → cond b (Some u) None ≡ Some t →
          (between m n (length t) ≡ true) × (Some u ≡ Some t)
      go true h k = (rw (same_Some u t k) at h, k)
      go false h k = absurd (none-some t k)

  pub sized_is : (m n : ℕ) (o : Option (List A)) {t : List A} → sized m n o ≡ Some t → Sized m n t × (o ≡ Some t)
  sized_is m n o {t} e =
      let s = sized_some m n o e in
      (record { least = between_low {x = length t} m n s.0; most = between_high {x = length t} m n s.0 }, s.1)

  pub is_sized : (m n : ℕ) (o : Option (List A)) {t : List A} → Sized m n t → o ≡ Some t → sized m n o ≡ Some t
  is_sized m n o {t} h e = rw (e, inside {x = length t} m n h.least h.most)

  pub unsized : (m n : ℕ) (t : List A) → (Sized m n t → ⊥) → sized m n (Some t) ≡ None
  unsized m n t h = go (between m n (length t)) refl
    where
      go : (b : Bool) → between m n (length t) ≡ b → cond b (Some t) None ≡ None
      go true e =
          absurd (h (record { least = between_low {x = length t} m n e; most = between_high {x = length t} m n e }))
      go false e = refl

  pub mapped_some : {B : Type 0} (f : A → B) (o : Option A) {b : B} → mapped f o ≡ Some b →
      (a : A) × (o ≡ Some a) × (f a ≡ b)
  mapped_some f None {b} e = absurd (none-some b e)
  mapped_some f (Some a) {b} e = (a, refl, same_Some (f a) b e)

  pub prepend_some : (x : A) (o : Option (List A)) {t : List A} → prepend x o ≡ Some t →
      (u : List A) × (o ≡ Some u) × (x ∷ u ≡ t)
  prepend_some x None {t} e = absurd (none-some t e)
  prepend_some x (Some u) {t} e = (u, refl, same_Some (x ∷ u) t e)

-- what was read, in front of a list that is read
module _ {A : Type 0} where
  pub glue_some : (t : List A) (o : Option (List A)) {l : List A} → glue t o ≡ Some l →
      (u : List A) × (o ≡ Some u) × (t ++ u ≡ l)
  glue_some t None {l} e = absurd (none-some l e)
  glue_some t (Some u) {l} e = (u, refl, same_Some (t ++ u) l e)

  pub glue_prepend : (t : List A) (x : A) (o : Option (List A)) → glue t (prepend x o) ≡ glue (t ++ (x ∷ [])) o
  glue_prepend t x None = refl
  glue_prepend t x (Some u) = ap Some (sym (append_assoc t (x ∷ []) u))

  pub glue_cons : (x : A) (t : List A) (o : Option (List A)) → prepend x (glue t o) ≡ glue (x ∷ t) o
  glue_cons x t None = refl
  glue_cons x t (Some u) = refl

  pub glue_glue : (t u : List A) (o : Option (List A)) → glue t (glue u o) ≡ glue (t ++ u) o
  glue_glue t u None = refl
  glue_glue t u (Some v) = ap Some (sym (append_assoc t u v))

  pub glue_nil : (o : Option (List A)) → glue [] o ≡ o
  glue_nil None = refl
  glue_nil (Some u) = refl

-- what is read on from a list of a right length is read of that list
pub sized_then : {A B : Type 0} (m n : ℕ) (f : List A → Option B) (t : List A) {b : B} →
    and_then (sized m n (Some t)) f ≡ Some b → Sized m n t × (f t ≡ Some b)
sized_then m n f t e =
    let k = then_some (sized m n (Some t)) f e in
    let s = sized_is m n (Some t) k.1 in
    let q : k.0 ≡ t = sym (same_Some t k.0 s.1) in
    (rw q at s.0, rw q at k.2)

-- texts are read each exactly where they stand pairwise, as R says, to what is read of them
module _ {A : Type 0} (f : List ℕ → Option A) (R : List ℕ → A → Type 0) where
  pub each_pairwise : ((p : List ℕ) (a : A) → f p ≡ Some a → R p a) → (ps : List (List ℕ)) {xs : List A} →
      each f ps ≡ Some xs → Pairwise R ps xs
  each_pairwise g [] {xs} e = subst (Pairwise R []) (same_Some [] xs e) tt
  each_pairwise g (p ∷ ps) {xs} e =
      let k = then_some (f p) (λ a. prepend a (each f ps)) e in
      let u = prepend_some k.0 (each f ps) k.2 in
      subst (Pairwise R (p ∷ ps)) u.2 (g p k.0 k.1, each_pairwise g ps u.1)

  pub pairwise_each : ((p : List ℕ) (a : A) → R p a → f p ≡ Some a) → (ps : List (List ℕ)) (xs : List A) →
      Pairwise R ps xs → each f ps ≡ Some xs
  pairwise_each g [] [] h = refl
  pairwise_each g [] (x ∷ xs) h = absurd h
  pairwise_each g (p ∷ ps) [] h = absurd h
  pairwise_each g (p ∷ ps) (x ∷ xs) h = rw (g p x h.0, pairwise_each g ps xs h.1)

-- what there is, if it is, has the property
abbrev pub IfSome : {A : Type 0} → (A → Type 0) → Option A → Type 0
IfSome P None = Unit
IfSome P (Some a) = P a

module _ {A : Type 0} (P : A → Type 0) where
  pub if_some : {o : Option A} {a : A} → IfSome P o → o ≡ Some a → P a
  if_some h e = subst (IfSome P) e h
