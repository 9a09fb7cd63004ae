-- The first "::" of a text: the text is what stands before it and behind it, and pieces that are not empty hold none.
use Rattle.std.specs.Prelude.{◌≡◌, refl, Bool, true, false, cond, ◌&&◌, List, [], ◌∷◌, ◌++◌, ℕ, eqb, drop, None, Some}
use Rattle.std.proofs.Common.{ap, ap₂, sym, ◌∙◌, subst, append_assoc, append-nil, eqb-true}
use Rattle.std.proofs.lemmas.Bool.{false≢true, not-true}
use Rattle.std.proofs.lemmas.Option.{same_Some, none-some}
use Rattle.text.specs.Bytes.{other}
use Rattle.text.specs.Parts.{all}
use Rattle.text.specs.Pieces.{Pieces, last, next}
use Rattle.text.specs.Relations.{Each}
use Rattle.text.specs.Laws.{and_true, all_cons}
use Rattle.ipv6.specs.Ipv6.{starts, Halves, infront, halves}
use Rattle.ipv6.specs.Ipv6Rules.{Colons, nothing, some_pieces}

-- ---- a text in front of the first half

abbrev pub shift : List ℕ → Halves → Halves
shift t None = None
shift t (Some h) = Some (t ++ h.0, h.1)

pub shift_nil : (o : Halves) → shift [] o ≡ o
shift_nil None = refl
shift_nil (Some h) = refl

shift_cons : (x : ℕ) (t : List ℕ) (o : Halves) → infront x (shift t o) ≡ shift (x ∷ t) o
shift_cons x t None = refl
shift_cons x t (Some h) = refl

pub shift_shift : (t u : List ℕ) (o : Halves) → shift t (shift u o) ≡ shift (t ++ u) o
shift_shift t u None = refl
shift_shift t u (Some h) = ap (λ (l : List ℕ). Some (l, h.1)) (sym (append_assoc t u h.0))

-- ---- the text of the halves

starts_text : (s : List ℕ) → starts 58 s ≡ true → s ≡ 58 ∷ drop 1 s
starts_text [] e = absurd (false≢true e)
starts_text (x ∷ s) e = rw (eqb-true x 58 e)

abbrev Halved : List ℕ → (List ℕ × List ℕ) → Type 0
Halved s h = s ≡ h.0 ++ (58 ∷ 58 ∷ h.1)

pub halves_text : (s : List ℕ) (h : List ℕ × List ℕ) → halves s ≡ Some h → s ≡ h.0 ++ (58 ∷ 58 ∷ h.1)
unfolding halves
halves_text [] h e = absurd (none-some h e)
halves_text (x ∷ s) h e = go (eqb x 58 && starts 58 s) refl (halves s) (λ k q. halves_text s k q) e
  where
    go : (t : Bool) → (eqb x 58 && starts 58 s) ≡ t → (o : Halves) →
        ((k : List ℕ × List ℕ) → o ≡ Some k → Halved s k) →
        cond t (Some ([], drop 1 s)) (infront x o) ≡ Some h → Halved (x ∷ s) h
    go true q o f w =
        let c = and_true (eqb x 58) (starts 58 s) q in
        subst (Halved (x ∷ s)) (same_Some ([], drop 1 s) h w) (ap₂ ◌∷◌ (eqb-true x 58 c.0) (starts_text s c.1))
    go false q None f w = absurd (none-some h w)
    go false q (Some k) f w =
        subst (Halved (x ∷ s)) (same_Some (x ∷ k.0, k.1) h w) (ap (λ (l : List ℕ). x ∷ l) (f k refl))

-- ---- pieces that are not empty hold no "::"

halves_plain : (p t : List ℕ) → all (other 58) p ≡ true → halves (p ++ t) ≡ shift p (halves t)
unfolding halves
halves_plain [] t h = sym (shift_nil (halves t))
halves_plain (x ∷ p) t h =
    let c = all_cons (other 58) x p h in
    rw (not-true (eqb x 58) c.0, halves_plain p t c.1) (shift_cons x p (halves t))

halves_colon : (t : List ℕ) → starts 58 t ≡ false → halves (58 ∷ t) ≡ infront 58 (halves t)
unfolding halves
halves_colon t e = rw e

starts_plain : (p t : List ℕ) → ¬ (p ≡ []) → all (other 58) p ≡ true → starts 58 (p ++ t) ≡ false
starts_plain [] t n h = absurd (n refl)
starts_plain (x ∷ p) t n h = not-true (eqb x 58) (all_cons (other 58) x p h).0

starts_pieces : {v : List ℕ} {ps : List (List ℕ)} → Pieces 58 v ps → Each (λ p. ¬ (p ≡ [])) ps → (t : List ℕ) →
    starts 58 (v ++ t) ≡ false
starts_pieces (last {p} h) n t = starts_plain p t n.0 h
starts_pieces (next {p} {rest} h k) n t =
    ap (starts 58) (append_assoc p (58 ∷ rest) t) ∙ starts_plain p (58 ∷ (rest ++ t)) n.0 h

halves_pieces : {v : List ℕ} {ps : List (List ℕ)} → Pieces 58 v ps → Each (λ p. ¬ (p ≡ [])) ps → (t : List ℕ) →
    halves (v ++ t) ≡ shift v (halves t)
halves_pieces (last {p} h) n t = halves_plain p t h
halves_pieces (next {p} {rest} h k) n t =
    let colon : halves (58 ∷ (rest ++ t)) ≡ shift (58 ∷ rest) (halves t) =
    halves_colon (rest ++ t) (starts_pieces k n.1 t)
    ∙ ap (infront 58) (halves_pieces k n.1 t) ∙ shift_cons 58 rest (halves t) in
    ap halves (append_assoc p (58 ∷ rest) t) ∙ halves_plain p (58 ∷ (rest ++ t)) h
    ∙ ap (shift p) colon ∙ shift_shift p (58 ∷ rest) (halves t)

halves_empty : halves [] ≡ None
unfolding halves
halves_empty = refl

halves_here : (t : List ℕ) → halves (58 ∷ 58 ∷ t) ≡ Some ([], t)
unfolding halves
halves_here t = refl

-- such pieces alone, and such pieces in front of "::"
pub halves_whole : {v : List ℕ} {ps : List (List ℕ)} → Pieces 58 v ps → Each (λ p. ¬ (p ≡ [])) ps → halves v ≡ None
halves_whole {v} h n = ap halves (sym (append-nil v)) ∙ halves_pieces h n [] ∙ ap (shift v) halves_empty

pub halves_split : {v : List ℕ} {ps : List (List ℕ)} → Colons v ps → Each (λ p. ¬ (p ≡ [])) ps → (t : List ℕ) →
    halves (v ++ (58 ∷ 58 ∷ t)) ≡ Some (v, t)
halves_split nothing n t = halves_here t
halves_split (some_pieces {v} h) n t = halves_pieces h n (58 ∷ 58 ∷ t) ∙ rw (halves_here t) (ap (λ (l : List ℕ). Some (l, t)) (append-nil v))
