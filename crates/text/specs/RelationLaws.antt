-- Laws of what holds of the elements of a list: of lists set end to end, and of what follows from it element by element.
use Rattle.std.specs.Prelude.{List, [], ◌∷◌, ◌++◌, ◌⊎◌}
use Rattle.std.proofs.Common.{inl, inr}
use Rattle.text.specs.Relations.{Each, Any, Pairwise}

module _ {A : Type 0} (P : A → Type 0) where
  pub each_append : (a b : List A) → Each P a → Each P b → Each P (a ++ b)
  each_append [] b h k = k
  each_append (x ∷ a) b h k = (h.0, each_append a b h.1 k)

  -- of each, so of the one at a place
  pub each_at : (a : List A) (x : A) (c : List A) → Each P (a ++ x ∷ c) → P x
  each_at [] x c h = h.0
  each_at (y ∷ a) x c h = each_at a x c h.1

  pub some_left : (a b : List A) → Any P a → Any P (a ++ b)
  some_left [] b h = absurd h
  some_left (x ∷ a) b (inl h) = inl h
  some_left (x ∷ a) b (inr h) = inr (some_left a b h)

  pub some_right : (a b : List A) → Any P b → Any P (a ++ b)
  some_right [] b h = h
  some_right (x ∷ a) b h = inr (some_right a b h)

  pub some_either : (a b : List A) → Any P (a ++ b) → Any P a ⊎ Any P b
  some_either [] b h = inr h
  some_either (x ∷ a) b (inl h) = inl (inl h)
  some_either (x ∷ a) b (inr h) = go (some_either a b h)
    where
      go : Any P a ⊎ Any P b → Any P (x ∷ a) ⊎ Any P b
      go (inl k) = inl (inr k)
      go (inr k) = inr k

-- what follows for an element follows for each, for one, and for each pair
module _ {A : Type 0} (P Q : A → Type 0) (f : (x : A) → P x → Q x) where
  pub each_weaken : (xs : List A) → Each P xs → Each Q xs
  each_weaken [] h = tt
  each_weaken (x ∷ xs) h = (f x h.0, each_weaken xs h.1)

  pub some_weaken : (xs : List A) → Any P xs → Any Q xs
  some_weaken [] h = absurd h
  some_weaken (x ∷ xs) (inl h) = inl (f x h)
  some_weaken (x ∷ xs) (inr h) = inr (some_weaken xs h)

module _ {A B : Type 0} (R S : A → B → Type 0) (f : (x : A) (y : B) → R x y → S x y) where
  pub pairwise_weaken : (xs : List A) (ys : List B) → Pairwise R xs ys → Pairwise S xs ys
  pairwise_weaken [] [] h = tt
  pairwise_weaken [] (y ∷ ys) h = absurd h
  pairwise_weaken (x ∷ xs) [] h = absurd h
  pairwise_weaken (x ∷ xs) (y ∷ ys) h = (f x y h.0, pairwise_weaken xs ys h.1)

-- what each pair says of its first element holds of each first element
module _ {A B : Type 0} (R : A → B → Type 0) (P : A → Type 0) (f : (x : A) (y : B) → R x y → P x) where
  pub pairwise_first : (xs : List A) (ys : List B) → Pairwise R xs ys → Each P xs
  pairwise_first [] [] h = tt
  pairwise_first [] (y ∷ ys) h = absurd h
  pairwise_first (x ∷ xs) [] h = absurd h
  pairwise_first (x ∷ xs) (y ∷ ys) h = (f x y h.0, pairwise_first xs ys h.1)
