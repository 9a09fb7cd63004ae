-- A key's place in the table of its group, and what stands at a place.
use Rattle.std.specs.Prelude.{ℕ, zero, suc, ◌≡◌, refl, Bool, true, false, cond, List, [], ◌∷◌, Option, None, Some}
use Rattle.std.proofs.Common.{sym, ◌∙◌}
use Rattle.text.specs.Options.{mapped}
use Rattle.text.specs.Words.{same, place, further, named}
use Rattle.rules.specs.Tables.{keys_of, kind_of}
use Rattle.rules.specs.declared.Group.{Group}
use Rattle.tables.specs.declared.Listed.{Listed}

-- the words of a table, and what the word at a place stands for, counted from 1
abbrev pub table_words : {A : Type 0} → List (List ℕ × A) → List (List ℕ)
table_words [] = []
table_words (x ∷ t) = x.0 ∷ table_words t

abbrev pub at_place : {A : Type 0} → ℕ → List (List ℕ × A) → Option A
at_place n [] = None
at_place zero (x ∷ t) = None
at_place (suc zero) (x ∷ t) = Some x.1
at_place (suc (suc n)) (x ∷ t) = at_place (suc n) t

pub at_place_zero : {A : Type 0} (t : List (List ℕ × A)) → at_place zero t ≡ None
at_place_zero [] = refl
at_place_zero (x ∷ t) = refl

pub at_place_named : {A : Type 0} (w : List ℕ) (t : List (List ℕ × A)) → at_place (place w (table_words t)) t ≡ named w t
at_place_named w [] = refl
at_place_named w (x ∷ t) = go (same w x.0) (place w (table_words t)) (at_place_named w t)
  where
    go : (b : Bool) (p : ℕ) → at_place p t ≡ named w t →
        at_place (cond b 1 (further p)) (x ∷ t) ≡ cond b (Some x.1) (named w t)
    go true p h = refl
    go false zero h = sym (at_place_zero t) ∙ h
    go false (suc p) h = h

-- the place of a word among words that are counted on from n, or 0
unfoldable pub place_from : ℕ → List ℕ → List (List ℕ) → ℕ
place_from n w [] = 0
place_from n w (x ∷ xs) = cond (same w x) n (place_from (suc n) w xs)

abbrev pub key_names : Group → List (List ℕ)
key_names g = table_words (keys_of g)

-- a key of a group by its place among the group's keys and its kind; none if it is not listed
abbrev pub listed_key : Group → List ℕ → Option Listed
listed_key g k = mapped (λ x. record { place = place k (key_names g); kind = x }) (kind_of g k)
