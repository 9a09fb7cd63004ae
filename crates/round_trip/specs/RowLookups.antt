-- A setting that is asked of a file is the one that its groups have: by their names, keys and values alone.
use Rattle.std.specs.Prelude.{ℕ, suc, ◌+◌, ◌≡◌, refl, Bool, true, false, cond, not, List, [], ◌∷◌, ◌++◌, length, Option, None, Some}
use Rattle.std.proofs.Common.{arith, ap, ap₂, sym, ◌∙◌, true≢false}
use Rattle.std.proofs.lemmas.Bool.{not-true}
use Rattle.text.specs.Words.{same}
use Rattle.text.specs.Options.{is_some, and_then, or_else}
use Rattle.text.specs.Laws.{and_true, same_refl, same_eq}
use Rattle.rules.specs.Sections.{Entry, Section, entry_of, entries_in, settings}
use Rattle.rules.specs.Groups.{has}
use Rattle.rules.specs.Asking.{iwd_entry, read_as}
use Rattle.written.specs.Written.{WrittenRow, Block}
use Rattle.round_trip.specs.Blocks.{bare, bare_blocks, or_skipped, kept, row_value, rows_in, row_count, name_free, names_apart}
use Rattle.round_trip.specs.Readings.{given_bare}

-- ---- in a file

entries_bare : (n : List ℕ) (gs : List Section) → bare (entries_in n gs) ≡ rows_in n (bare_blocks gs)
entries_bare n [] = refl
entries_bare n (g ∷ gs) = go (same n g.name) (entries_bare n gs)
  where
    go : (b : Bool) → bare (entries_in n gs) ≡ rows_in n (bare_blocks gs) →
        bare (cond b g.entries (entries_in n gs)) ≡ cond b (bare g.entries) (rows_in n (bare_blocks gs))
    go true e = refl
    go false e = e

read_bare : {A : Type 0} (f : List ℕ → Option A) (k : List ℕ) (es : List Entry) →
    read_as f (entry_of k es) ≡ and_then (row_value k (bare es)) f
read_bare f k [] = refl
read_bare f k (x ∷ es) = go (same k x.key) (read_bare f k es)
  where
    go : (b : Bool) → read_as f (entry_of k es) ≡ and_then (row_value k (bare es)) f →
        read_as f (cond b (Some x) (entry_of k es)) ≡ and_then (cond b (Some x.value) (row_value k (bare es))) f
    go true e = refl
    go false e = e

-- ---- in the groups that have a setting

rows_absent : (n : List ℕ) (bs : List Block) → name_free n bs ≡ true → rows_in n bs ≡ []
rows_absent n [] e = refl
rows_absent n (b ∷ bs) e = go (same n b.name) refl (rows_absent n bs k.1)
  where
    k : (not (same b.name n) ≡ true) × (name_free n bs ≡ true)
    k = and_true (not (same b.name n)) (name_free n bs) e

    go : (t : Bool) → same n b.name ≡ t → rows_in n bs ≡ [] → cond t b.rows (rows_in n bs) ≡ []
    go true q f = absurd (true≢false (sym (ap (same b.name) (same_eq n b.name q) ∙ same_refl b.name) ∙ not-true (same b.name n) k.0))
    go false q f = f

pub rows_kept : (n : List ℕ) (bs : List Block) → names_apart bs ≡ true → rows_in n (kept bs) ≡ rows_in n bs
rows_kept n [] a = refl
rows_kept n (b ∷ bs) a = go b.rows (rows_kept n bs k.1)
  where
    k : (name_free b.name bs ≡ true) × (names_apart bs ≡ true)
    k = and_true (name_free b.name bs) (names_apart bs) a

    skip : (t : Bool) → same n b.name ≡ t → rows_in n bs ≡ cond t [] (rows_in n bs)
    skip true q = rows_absent n bs (ap (λ (m : List ℕ). name_free m bs) (same_eq n b.name q) ∙ k.0)
    skip false q = refl

    go : (rs : List WrittenRow) → rows_in n (kept bs) ≡ rows_in n bs →
        rows_in n (or_skipped b.name rs (kept bs)) ≡ cond (same n b.name) rs (rows_in n bs)
    go [] e = e ∙ skip (same n b.name) refl
    go (r ∷ rs) e = ap (cond (same n b.name) (r ∷ rs)) e

-- ---- of a file with the groups bs

module _ (gs : List Section) (bs : List Block) (a : names_apart bs ≡ true) (e : bare_blocks gs ≡ kept bs) (n k : List ℕ) where
  entries_rows : bare (entries_in n gs) ≡ rows_in n bs
  entries_rows = entries_bare n gs ∙ ap (rows_in n) e ∙ rows_kept n bs a

  pub read_rows : {A : Type 0} (f : List ℕ → Option A) →
      read_as f (iwd_entry gs n k) ≡ and_then (row_value k (rows_in n bs)) f
  read_rows {A} f = read_bare f k (entries_in n gs) ∙ ap (λ (rs : List WrittenRow). and_then (row_value k rs) f) entries_rows

  pub has_rows : has n k gs ≡ is_some (row_value k (rows_in n bs))
  has_rows = given_bare k (entries_in n gs) ∙ ap (λ (rs : List WrittenRow). is_some (row_value k rs)) entries_rows

-- ---- how many settings

bare_length : (es : List Entry) → length (bare es) ≡ length es
bare_length [] = refl
bare_length (x ∷ es) = ap suc (bare_length es)

settings_bare : (gs : List Section) → settings gs ≡ row_count (bare_blocks gs)
settings_bare [] = refl
settings_bare (g ∷ gs) = ap₂ ◌+◌ (sym (bare_length g.entries)) (settings_bare gs)

count_kept : (bs : List Block) → row_count (kept bs) ≡ row_count bs
count_kept [] = refl
count_kept (b ∷ bs) = go b.rows (count_kept bs)
  where
    go : (rs : List WrittenRow) → row_count (kept bs) ≡ row_count bs →
        row_count (or_skipped b.name rs (kept bs)) ≡ length rs + row_count bs
    go [] e = omega (arith, e)
    go (r ∷ rs) e = ap (λ (n : ℕ). length (r ∷ rs) + n) e

pub settings_rows : (gs : List Section) (bs : List Block) → bare_blocks gs ≡ kept bs → settings gs ≡ row_count bs
settings_rows gs bs e = settings_bare gs ∙ ap row_count e ∙ count_kept bs

-- ---- of settings behind others

pub value_append : (k : List ℕ) (a b : List WrittenRow) → row_value k (a ++ b) ≡ or_else (row_value k a) (row_value k b)
value_append k [] b = refl
value_append k (r ∷ a) b = go (same k r.0) (value_append k a b)
  where
    go : (t : Bool) → row_value k (a ++ b) ≡ or_else (row_value k a) (row_value k b) →
        cond t (Some r.1) (row_value k (a ++ b)) ≡ or_else (cond t (Some r.1) (row_value k a)) (row_value k b)
    go true e = refl
    go false e = e

-- a key that one of the two has not
module _ (k : List ℕ) (a b : List WrittenRow) where
  pub value_behind : row_value k a ≡ None → row_value k (a ++ b) ≡ row_value k b
  value_behind e = value_append k a b ∙ rw e

  pub value_before : row_value k b ≡ None → row_value k (a ++ b) ≡ row_value k a
  value_before e = value_append k a b ∙ rw e (go (row_value k a))
    where
      go : (o : Option (List ℕ)) → or_else o None ≡ o
      go None = refl
      go (Some v) = refl
