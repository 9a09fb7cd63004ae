-- `fields` of a list that is read gives the parts between its separators, and a text has no others.
use Rattle.std.specs.Prelude.{◌≡◌, ℕ, zero, suc, true, false, List, [], ◌∷◌, ◌++◌, replicate, refl}
use Rattle.std.proofs.Common.{arith, ap, ◌∙◌, subst, sym, append-nil}
use Rattle.text.specs.Bytes.{other}
use Rattle.text.specs.Parts.{all, empty, pieces}
use Rattle.text.specs.Pieces as P
use Rattle.text.specs.Pieces.{Pieces}
use Rattle.text.specs.PieceLaws.{pieces_are, pieces_only}
use Rattle.text.specs.Relations.{Each}
use Rattle.text.specs.Laws.{pieces_append, pieces_last}
use Rattle.addresses.specs.Addresses.{non_empty, spaced, fields}
use Rattle.addresses.specs.AddressRules.{Part, Spaced, last, next, Split}
use Rattle.addresses.specs.declared.Separator.{Separator}
use Rattle.addresses.specs.declared.Separator.TheVariants.{Spaces, Comma}

-- ---- from the parts to what `spaced` gives

some_part : (p : List ℕ) → Part p → empty p ≡ false
some_part [] h = absurd (h.written refl)
some_part (x ∷ p) h = refl

-- spaces in front leave no part
pieces_spaces : (n : ℕ) (s : List ℕ) → non_empty (pieces 32 (replicate n 32 ++ s)) ≡ non_empty (pieces 32 s)
pieces_spaces zero s = refl
pieces_spaces (suc n) s = pieces_spaces n s

-- behind spaces a text has the same parts as `spaced` gives of it
spaced_parts : {v : List ℕ} {ps : List (List ℕ)} → Spaced v ps →
    (spaced (pieces 32 v) ≡ ps) × (non_empty (pieces 32 v) ≡ ps)
spaced_parts (last {p} h zero) =
    let e = pieces_last 32 p h.unspaced in
    rw (append-nil p, e, some_part p h) (refl, refl)
spaced_parts (last {p} h (suc n)) =
    let e = pieces_append 32 p (replicate n 32) h.unspaced in
    let k = ap (λ (l : List ℕ). non_empty (pieces 32 l)) (sym (append-nil (replicate n 32))) ∙ pieces_spaces n [] in
    rw (e, some_part p h, k) (refl, refl)
spaced_parts (next {p} {rest} h n s) =
    let e = pieces_append 32 p (replicate n 32 ++ rest) h.unspaced in
    let k = pieces_spaces n rest ∙ (spaced_parts s).1 in
    rw (e, some_part p h, k) (refl, refl)

-- ---- from what `spaced` gives to the parts

-- spaces, and then nothing or parts
data Rest : List ℕ → List (List ℕ) → Type 0 where
  spaces : (n : ℕ) → Rest (replicate n 32) []
  parts : (n : ℕ) {s : List ℕ} {ps : List (List ℕ)} → Spaced s ps → Rest (replicate n 32 ++ s) ps

-- a part, a space and a rest; a space more in front of a rest
part_rest : (p : List ℕ) → Part p → {s : List ℕ} {ps : List (List ℕ)} → Rest s ps → Spaced (p ++ 32 ∷ s) (p ∷ ps)
part_rest p h (spaces n) = last h (suc n)
part_rest p h (parts n k) = next h n k

space_rest : {s : List ℕ} {ps : List (List ℕ)} → Rest s ps → Rest (32 ∷ s) ps
space_rest (spaces n) = spaces (suc n)
space_rest (parts n k) = parts (suc n) k

a_part : (x : ℕ) (p : List ℕ) → all (other 32) (x ∷ p) ≡ true → Part (x ∷ p)
a_part x p h = record { written = λ e. let z : ◌≡◌ {A = ℕ} 0 1 = cc in omega arith; unspaced = h }

alone : (p : List ℕ) → Part p → Spaced p (p ∷ [])
alone p h = subst (λ (v : List ℕ). Spaced v (p ∷ [])) (append-nil p) (last h 0)

pieces_rest : {v : List ℕ} {ps : List (List ℕ)} → Pieces 32 v ps → Rest v (non_empty ps)
pieces_rest (P.last {p} h) = go p h
  where
    go : (p : List ℕ) → all (other 32) p ≡ true → Rest p (non_empty (p ∷ []))
    go [] h = spaces 0
    go (x ∷ p) h = parts 0 (alone (x ∷ p) (a_part x p h))
pieces_rest (P.next {p} {rest} {ps} h k) = go p h (pieces_rest k)
  where
    go : (p : List ℕ) → all (other 32) p ≡ true → Rest rest (non_empty ps) → Rest (p ++ 32 ∷ rest) (non_empty (p ∷ ps))
    go [] h r = space_rest r
    go (x ∷ p) h r = parts 0 (part_rest (x ∷ p) (a_part x p h) r)

pieces_spaced : {v : List ℕ} {ps : List (List ℕ)} → Pieces 32 v ps → Each (λ p. ¬ (p ≡ [])) (spaced ps) →
    Spaced v (spaced ps)
pieces_spaced (P.last {p} h) w = alone p (record { written = w.0; unspaced = h })
pieces_spaced (P.next {p} h k) w = part_rest p (record { written = w.0; unspaced = h }) (pieces_rest k)

-- ---- either separator

pub fields_split : (sep : Separator) (v : List ℕ) → Each (λ p. ¬ (p ≡ [])) (fields sep v) → Split sep v (fields sep v)
fields_split Comma v w = pieces_are 44 v
fields_split Spaces v w = pieces_spaced (pieces_are 32 v) w

pub split_fields : (sep : Separator) (v : List ℕ) {ps : List (List ℕ)} → Split sep v ps → fields sep v ≡ ps
split_fields Comma v h = pieces_only 44 h
split_fields Spaces v h = (spaced_parts h).0
