-- A word's place in a table, by comparing it with each word from the last to the first.
use Prim.Native.Nat.{ℕ, suc}
use mathlib.Core.Path.{◌≡◌, refl, ap, ◌∙◌}
use mathlib.Core.Bool.{Bool, true, false, cond}
use mathlib.Core.List.{List, [], ◌∷◌}
use Rattle.text.specs.Words.{same, place, further}
use Rattle.tables.specs.KeyPlaces.{place_from}

module _ (w : List ℕ) where
  place_from_further : (n : ℕ) (xs : List (List ℕ)) → place_from (suc (suc n)) w xs ≡ further (place_from (suc n) w xs)
  unfolding place_from
  place_from_further n [] = refl
  place_from_further n (x ∷ xs) = go (same w x) (place_from (suc (suc n)) w xs) (place_from_further (suc n) xs)
    where
      go : (b : Bool) (p : ℕ) {q : ℕ} → q ≡ further p → cond b (suc (suc n)) q ≡ further (cond b (suc n) p)
      go true p e = refl
      go false p e = e

  place_from_one : (xs : List (List ℕ)) → place_from 1 w xs ≡ place w xs
  unfolding place_from
  place_from_one [] = refl
  place_from_one (x ∷ xs) = ap (cond (same w x) 1) (place_from_further 0 xs ∙ ap further (place_from_one xs))

  -- what is found in a whole table, in a word and those behind it, and behind the last
  pub found_place : (xs : List (List ℕ)) {r : ℕ} → r ≡ place_from 1 w xs → r ≡ place w xs
  found_place xs e = e ∙ place_from_one xs

  pub found_from : (n : ℕ) (x : List ℕ) (xs : List (List ℕ)) {r b : ℕ} →
      r ≡ cond (same w x) n b → b ≡ place_from (suc n) w xs → r ≡ place_from n w (x ∷ xs)
  unfolding place_from
  found_from n x xs e q = e ∙ ap (cond (same w x) n) q

  pub found_none : (n : ℕ) → 0 ≡ place_from n w []
  unfolding place_from
  found_none n = refl

-- a step of `search` for each word, and two more
pub ruleset counting = (found_place, found_from, found_none)
