-- A name line's form is complete exactly where the line is a ConnMan file name.
use Rattle.std.specs.Prelude.{ℕ, ◌+◌, ◌≤◌, ◌<◌, ◌≡◌, refl, Bool, true, false, cond, ◌&&◌, List, [], ◌∷◌, eqb, leb, drop, get_or}
use Rattle.std.proofs.Common.{arith, leb-true, leb-false, ne_eqb}
use Rattle.text.specs.Bytes.{is_alphanumeric}
use Rattle.text.specs.Parts.{after}
use Rattle.text.specs.Words.{word, same}
use Rattle.text.specs.Laws.{view_more}
use Rattle.names.specs.Names.{connman_name}
use Rattle.intake.specs.declared.Form.TheVariants.{Empty, Stem, Suffix, Broken}
use Rattle.intake.specs.Forms.{form_after, form_from, complete}

broken_stays : (s : List ℕ) → complete (form_from Broken s) ≡ false
broken_stays [] = refl
broken_stays (x ∷ s) = broken_stays s

-- n bytes of `.config` have been read: the others are to follow
suffix_rest : (s : List ℕ) (n : ℕ) → n ≤ 7 → complete (form_from (Suffix n) s) ≡ same s (drop n (word ".config"))
suffix_rest [] n l = go (leb 7 n) refl
  where
    go : (b : Bool) → leb 7 n ≡ b → eqb n 7 ≡ same [] (drop n (word ".config"))
    go true e = let z : n ≡ 7 = omega (arith, leb-true 7 n e) in rw z
    go false e = let k : n < 7 = leb-false 7 n e in rw (ne_eqb n 7 (λ z. omega arith), view_more (word ".config") n k)
suffix_rest (x ∷ s) n l = go (leb 7 n) refl (λ k. suffix_rest s (n + 1) k)
  where
    next : (b : Bool) →
        (n + 1 ≤ 7 → complete (form_from (Suffix (n + 1)) s) ≡ same s (drop (n + 1) (word ".config"))) → n < 7 →
        complete (form_from (cond b (Suffix (n + 1)) Broken) s) ≡ (b && same s (drop (n + 1) (word ".config")))
    next true ih k = ih (omega arith)
    next false ih k = broken_stays s

    go : (b : Bool) → leb 7 n ≡ b →
        (n + 1 ≤ 7 → complete (form_from (Suffix (n + 1)) s) ≡ same s (drop (n + 1) (word ".config"))) →
        complete (form_from (form_after (Suffix n) x) s) ≡ same (x ∷ s) (drop n (word ".config"))
    go true e ih = let z : n ≡ 7 = omega (arith, leb-true 7 n e) in rw z (broken_stays s)
    go false e ih = let k : n < 7 = leb-false 7 n e in rw (e, view_more (word ".config") n k) (next (eqb x (get_or (word ".config") n 0)) ih k)

stem_rest : (s : List ℕ) → complete (form_from Stem s) ≡ same (after is_alphanumeric s) (word ".config")
stem_rest [] = refl
stem_rest (x ∷ s) = go (is_alphanumeric x) refl (stem_rest s)
  where
    dot : (b : Bool) → complete (form_from (cond b (Suffix 1) Broken) s) ≡ (b && same s (drop 1 (word ".config")))
    dot true = suffix_rest s 1 (omega arith)
    dot false = broken_stays s

    go : (b : Bool) → is_alphanumeric x ≡ b →
        complete (form_from Stem s) ≡ same (after is_alphanumeric s) (word ".config") →
        complete (form_from (form_after Stem x) s) ≡ same (after is_alphanumeric (x ∷ s)) (word ".config")
    go true e ih = rw e ih
    go false e ih = rw e (dot (eqb x 46))

-- "ConnMan: one or more letters or digits, then `.config`."
pub form_connman : (s : List ℕ) → complete (form_from Empty s) ≡ connman_name s
form_connman [] = refl
form_connman (x ∷ s) = go (is_alphanumeric x) refl
  where
    go : (b : Bool) → is_alphanumeric x ≡ b → complete (form_from (form_after Empty x) s) ≡ connman_name (x ∷ s)
    go true e = rw e (stem_rest s)
    go false e = rw e (broken_stays s)
