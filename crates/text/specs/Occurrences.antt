-- Where in a list something is so: at every place, at which first, and at how many.
use Rattle.std.specs.Prelude.{ℕ, suc, ◌≤◌, ◌≡◌, List, [], ◌∷◌, ◌++◌, ◌⊎◌, length}

-- the first of the list that is so
abbrev pub First : {A : Type 0} → (A → Type 0) → List A → A → Type 0
First P [] x = ⊥
First P (y ∷ ys) x = (P y × (y ≡ x)) ⊎ ((¬ P y) × First P ys x)

-- at every place of the list: by what stands before it, the element there, and what stands behind it
abbrev pub Everywhere : {A : Type 0} → (List A → A → List A → Type 0) → List A → Type 0
Everywhere {A} Good xs = (before : List A) (x : A) (rest : List A) → xs ≡ before ++ x ∷ rest → Good before x rest

-- the first place of the list that is not good, what is said of it, and its number, counted from 1
pub record FirstBad {A B : Type 0}
    (Good : List A → A → List A → Type 0)
    (Bad : List A → A → List A → B → Type 0)
    (xs : List A) (b : B) (number : ℕ) : Type 0 where
  pub before : List A
  pub at : A
  pub rest : List A
  pub is : xs ≡ before ++ at ∷ rest
  pub good : (a : List A) (x : A) (t : List A) → before ≡ a ++ x ∷ t → Good a x (t ++ at ∷ rest)
  pub bad : Bad before at rest b
  pub counted : number ≡ suc (length before)

-- how many elements of the list are so
pub data Count {A : Type 0} (P : A → Type 0) : List A → ℕ → Type 0 where
  count_end : Count P [] 0
  count_one : {x : A} {xs : List A} {n : ℕ} → P x → Count P xs n → Count P (x ∷ xs) (suc n)
  count_other : {x : A} {xs : List A} {n : ℕ} → ¬ P x → Count P xs n → Count P (x ∷ xs) n

abbrev pub AtLeast : {A : Type 0} → ℕ → (A → Type 0) → List A → Type 0
AtLeast low P xs = (n : ℕ) × Count P xs n × (low ≤ n)
