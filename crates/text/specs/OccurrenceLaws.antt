-- The first place that is not good is one place, the first of a list is one element, and the count of a list one number.
use Rattle.std.specs.Prelude.{ℕ, suc, ◌+◌, ◌≡◌, refl, List, [], ◌∷◌, ◌++◌, length}
use Rattle.std.proofs.Common.{arith, zero-add, ap, ap₂, sym, ◌∙◌, inl, inr}
use Rattle.text.specs.Relations.{Each}
use Rattle.text.specs.Occurrences.{First, Everywhere, FirstBad, Count, count_end, count_one, count_other}

-- ---- the first of a list

module _ {A : Type 0} (P : A → Type 0) where
  pub first_unique : (xs : List A) {x y : A} → First P xs x → First P xs y → x ≡ y
  first_unique [] h k = absurd h
  first_unique (z ∷ xs) (inl h) (inl k) = sym h.1 ∙ k.1
  first_unique (z ∷ xs) (inl h) (inr k) = absurd (k.0 h.0)
  first_unique (z ∷ xs) (inr h) (inl k) = absurd (h.0 k.0)
  first_unique (z ∷ xs) (inr h) (inr k) = first_unique xs h.1 k.1

  pub none_first : (xs : List A) (x : A) → Each (λ y. ¬ P y) xs → First P xs x → ⊥
  none_first [] x h k = k
  none_first (y ∷ xs) x h (inl k) = h.0 k.0
  none_first (y ∷ xs) x h (inr k) = none_first xs x h.1 k.1

  -- the first of a list is of the list
  pub first_each : (Q : A → Type 0) (xs : List A) {x : A} → Each Q xs → First P xs x → Q x
  first_each Q [] h k = absurd k
  first_each Q (y ∷ xs) h (inl k) = rw k.1 at h.0
  first_each Q (y ∷ xs) h (inr k) = first_each Q xs h.1 k.1

-- ---- two places in one list

pub data Compared {A : Type 0} (a : List A) (x : A) (c b : List A) (y : A) (e : List A) : Type 0 where
  alike : a ≡ b → x ≡ y → c ≡ e → Compared a x c b y e
  later : (t : List A) → a ≡ b ++ y ∷ t → e ≡ t ++ x ∷ c → Compared a x c b y e
  sooner : (t : List A) → b ≡ a ++ x ∷ t → c ≡ t ++ y ∷ e → Compared a x c b y e

module _ {A : Type 0} where
  compared_more : {z w : A} {a : List A} {x : A} {c b : List A} {y : A} {e : List A} →
      z ≡ w → Compared a x c b y e → Compared (z ∷ a) x c (w ∷ b) y e
  compared_more p (alike i j l) = alike (ap₂ ◌∷◌ p i) j l
  compared_more p (later t i j) = later t (ap₂ ◌∷◌ p i) j
  compared_more p (sooner t i j) = sooner t (ap₂ ◌∷◌ (sym p) i) j

  pub compare : (a : List A) (x : A) (c b : List A) (y : A) (e : List A) → a ++ x ∷ c ≡ b ++ y ∷ e →
      Compared a x c b y e
  compare [] x c [] y e q = alike refl (cc) (cc)
  compare [] x c (z ∷ b) y e q = let p : z ≡ x = cc in sooner b (ap (λ (w : A). w ∷ b) p) (cc)
  compare (z ∷ a) x c [] y e q = let p : z ≡ y = cc in later a (ap (λ (w : A). w ∷ a) p) (cc)
  compare (z ∷ a) x c (w ∷ b) y e q = compared_more (cc) (compare a x c b y e (cc))

-- ---- the first place that is not good

module _ {A B : Type 0} {Good : List A → A → List A → Type 0} {Bad : List A → A → List A → B → Type 0}
    (apart : (a : List A) (x : A) (c : List A) (b : B) → Good a x c → Bad a x c b → ⊥) where
  pub everywhere_none : {xs : List A} {b : B} {n : ℕ} → Everywhere Good xs → FirstBad Good Bad xs b n → ⊥
  everywhere_none {b = b} g f = apart f.before f.at f.rest b (g f.before f.at f.rest f.is) f.bad

  not_sooner : {xs : List A} {b e : B} {n m : ℕ} (f : FirstBad Good Bad xs b n) (k : FirstBad Good Bad xs e m) (t : List A) →
      f.before ≡ k.before ++ k.at ∷ t → k.rest ≡ t ++ f.at ∷ f.rest → ⊥
  not_sooner {e = e} f k t i j = apart k.before k.at k.rest e (rw j (f.good k.before k.at t i)) k.bad

  pub first_bad_unique : ((a : List A) (x : A) (c : List A) (b e : B) → Bad a x c b → Bad a x c e → b ≡ e) →
      {xs : List A} {b e : B} {n m : ℕ} → FirstBad Good Bad xs b n → FirstBad Good Bad xs e m → (b ≡ e) × (n ≡ m)
  first_bad_unique one {b = b} {e = e} {n = n} {m = m} f k =
      go (compare f.before f.at f.rest k.before k.at k.rest (sym f.is ∙ k.is))
    where
      go : Compared f.before f.at f.rest k.before k.at k.rest → (b ≡ e) × (n ≡ m)
      go (alike i j l) = (
        one f.before f.at f.rest b e f.bad (rw (i, j, l) k.bad),
        f.counted ∙ ap (λ (a : List A). suc (length a)) i ∙ sym k.counted,
      )
      go (later t i j) = absurd (not_sooner f k t i j)
      go (sooner t i j) = absurd (not_sooner k f t i j)

-- ---- counts

module _ {A : Type 0} (P : A → Type 0) where
  pub count_unique : {xs : List A} {n m : ℕ} → Count P xs n → Count P xs m → n ≡ m
  count_unique count_end count_end = refl
  count_unique (count_one h c) (count_one k e) = ap suc (count_unique c e)
  count_unique (count_one h c) (count_other k e) = absurd (k h)
  count_unique (count_other h c) (count_one k e) = absurd (h k)
  count_unique (count_other h c) (count_other k e) = count_unique c e

  pub count_none : (xs : List A) → Each (λ x. ¬ P x) xs → Count P xs 0
  count_none [] h = count_end
  count_none (x ∷ xs) h = count_other h.0 (count_none xs h.1)

  pub count_append : {xs ys : List A} {n m : ℕ} → Count P xs n → Count P ys m → Count P (xs ++ ys) (n + m)
  count_append {m = m} count_end e = rw (zero-add m) e
  count_append {m = m} (count_one {n = n} h c) e =
      let q : suc n + m ≡ suc (n + m) = omega arith in
      rw q (count_one h (count_append c e))
  count_append (count_other h c) e = count_other h (count_append c e)
