-- `pieces` gives the pieces of a text, a text has no others, and pieces are of no other text.
use Rattle.std.specs.Prelude.{ℕ, ◌≤◌, ◌≡◌, refl, Bool, true, false, cond, List, [], ◌∷◌, ◌++◌, eqb, length}
use Rattle.std.proofs.Common.{arith, ap, sym, ◌∙◌, eq-eqb, eqb-true}
use Rattle.text.specs.Parts.{onto, pieces}
use Rattle.text.specs.Pieces.{Pieces, last, next}
use Rattle.text.specs.Laws.{pieces_append, pieces_last, pieces_some}

onto_pieces : (b x : ℕ) {s : List ℕ} {ps : List (List ℕ)} → eqb x b ≡ false → Pieces b s ps →
    Pieces b (x ∷ s) (onto x ps)
onto_pieces b x e (last {p} h) = last {p = x ∷ p} (rw e h)
onto_pieces b x e (next {p} h k) = next {p = x ∷ p} (rw e h) k

pub pieces_are : (b : ℕ) (v : List ℕ) → Pieces b v (pieces b v)
pieces_are b [] = last refl
pieces_are b (x ∷ v) = go (eqb x b) refl (pieces_are b v)
  where
    go : (t : Bool) → eqb x b ≡ t → Pieces b v (pieces b v) →
        Pieces b (x ∷ v) (cond t ([] ∷ pieces b v) (onto x (pieces b v)))
    go true e k = let q : x ≡ b = eqb-true x b e in rw q (next {p = []} refl k)
    go false e k = onto_pieces b x e k

pub pieces_only : (b : ℕ) {v : List ℕ} {ps : List (List ℕ)} → Pieces b v ps → pieces b v ≡ ps
pieces_only b (last {p} h) = pieces_last b p h
pieces_only b (next {p} {rest} h k) = pieces_append b p rest h ∙ ap (λ (r : List (List ℕ)). p ∷ r) (pieces_only b k)

-- ---- the text of pieces

abbrev behind : ℕ → List (List ℕ) → List ℕ
behind b [] = []
behind b (p ∷ ps) = b ∷ p ++ behind b ps

-- pieces with one byte b between two of them
abbrev join : ℕ → List (List ℕ) → List ℕ
join b [] = []
join b (p ∷ ps) = p ++ behind b ps

join_pieces : (b : ℕ) (s : List ℕ) → join b (pieces b s) ≡ s
join_pieces b [] = refl
join_pieces b (x ∷ s) = go (eqb x b) refl (pieces b s) (pieces_some b s) (join_pieces b s)
  where
    go : (t : Bool) → eqb x b ≡ t → (ps : List (List ℕ)) → 1 ≤ length ps → join b ps ≡ s →
        join b (cond t ([] ∷ ps) (onto x ps)) ≡ x ∷ s
    go t e [] n h = absurd (omega arith)
    go true e (p ∷ ps) n h = rw (eqb-true x b e, ← h)
    go false e (p ∷ ps) n h = ap (λ (l : List ℕ). x ∷ l) h

pub pieces_text : (b : ℕ) (s t : List ℕ) → pieces b s ≡ pieces b t → s ≡ t
pieces_text b s t e = sym (join_pieces b s) ∙ ap (join b) e ∙ join_pieces b t

-- ---- two texts and a byte b between them

onto_append : (x : ℕ) (ps qs : List (List ℕ)) → 1 ≤ length ps → onto x (ps ++ qs) ≡ onto x ps ++ qs
onto_append x [] qs n = absurd (omega arith)
onto_append x (p ∷ ps) qs n = refl

pub pieces_split : (b : ℕ) (s t : List ℕ) → pieces b (s ++ (b ∷ t)) ≡ pieces b s ++ pieces b t
pieces_split b [] t = rw (eq-eqb b b refl)
pieces_split b (x ∷ s) t = go (eqb x b) (pieces_split b s t)
  where
    go : (u : Bool) → pieces b (s ++ (b ∷ t)) ≡ pieces b s ++ pieces b t →
        cond u ([] ∷ pieces b (s ++ (b ∷ t))) (onto x (pieces b (s ++ (b ∷ t)))) ≡ cond u ([] ∷ pieces b s) (onto x (pieces b s)) ++ pieces b t
    go true h = rw h
    go false h = rw h (onto_append x (pieces b s) (pieces b t) (pieces_some b s))
