-- What is escaped reads back, stands on one line, does not begin with a blank, and is at most twice as long.
use Rattle.std.specs.Prelude.{◌≡◌, refl, Bool, true, false, List, [], ◌∷◌, ◌++◌, ℕ, ◌*◌, ◌≤◌, eqb, length, Some}
use Rattle.std.proofs.Common.{ap, sym, ◌∙◌, subst, arith, eqb-true, ne_eqb, length-append}
use Rattle.std.proofs.lemmas.Bool.{eqb-false}
use Rattle.text.specs.Bytes.{in_line, is_blank}
use Rattle.text.specs.Parts.{all, after}
use Rattle.text.specs.Laws.{all_append}
use Rattle.text.specs.Options.{prepend}
use Rattle.escapes.specs.Escapes.{unescape_from, unescape, shown, escape_from, escape}

-- what holds of k, and of each c but k, holds of every c
pub but : (P : ℕ → Type 0) (k c : ℕ) → P k → ((c ≡ k → ⊥) → P c) → P c
but P k c y n = go (eqb c k) refl
  where
    go : (t : Bool) → eqb c k ≡ t → P c
    go true e = subst P (sym (eqb-true c k e)) y
    go false e = n (eqb-false c k e)

-- what holds of the five escaped bytes, and of a byte that is shown as it stands, holds of every byte
pub shown_cases : (P : ℕ → List ℕ → Type 0) (f : Bool) → P 10 (92 ∷ 110 ∷ []) → P 13 (92 ∷ 114 ∷ []) →
    P 92 (92 ∷ 92 ∷ []) → P 32 (shown f 32) → P 9 (shown f 9)
    → ((c : ℕ) → (c ≡ 10 → ⊥) → (c ≡ 13 → ⊥) → (c ≡ 92 → ⊥) → (c ≡ 32 → ⊥) → (c ≡ 9 → ⊥) → P c (c ∷ [])) → (c : ℕ) →
    P c (shown f c)
shown_cases P f n r b s t other c =
    but Q 10 c n (λ hn. but Q 13 c r (λ hr. but Q 92 c b (λ hb. but Q 32 c s (λ hs. but Q 9 c t (λ ht. subst (P c) (sym (as_is f hn hr hb hs ht)) (other c hn hr hb hs ht))))))
  where
    Q : ℕ → Type 0
    Q x = P x (shown f x)

    as_is : (f : Bool) → (c ≡ 10 → ⊥) → (c ≡ 13 → ⊥) → (c ≡ 92 → ⊥) → (c ≡ 32 → ⊥) → (c ≡ 9 → ⊥) → shown f c ≡ c ∷ []
    as_is true hn hr hb hs ht = rw (ne_eqb c 10 hn, ne_eqb c 13 hr, ne_eqb c 92 hb, ne_eqb c 32 hs, ne_eqb c 9 ht)
    as_is false hn hr hb hs ht = rw (ne_eqb c 10 hn, ne_eqb c 13 hr, ne_eqb c 92 hb)

shown_back : (f : Bool) (r : List ℕ) (c : ℕ) → unescape_from false (shown f c ++ r) ≡ prepend c (unescape_from false r)
unfolding unescape_from
shown_back true r = shown_cases (λ (c : ℕ) (l : List ℕ). unescape_from false (l ++ r) ≡ prepend c (unescape_from false r)) true refl refl refl refl refl (λ c hn hr hb hs ht. rw (ne_eqb c 92 hb))
shown_back false r = shown_cases (λ (c : ℕ) (l : List ℕ). unescape_from false (l ++ r) ≡ prepend c (unescape_from false r)) false refl refl refl refl refl (λ c hn hr hb hs ht. rw (ne_eqb c 92 hb))

unescape_from_lem : (f : Bool) (t : List ℕ) → unescape_from false (escape_from f t) ≡ Some t
unfolding unescape_from escape_from
unescape_from_lem f [] = refl
unescape_from_lem f (c ∷ t) = shown_back f (escape_from false t) c ∙ ap (prepend c) (unescape_from_lem false t)

pub unescape_escape : (t : List ℕ) → unescape (escape t) ≡ Some t
unescape_escape t = unescape_from_lem true t

-- ---- on a line: no byte 10, and no blank in front

shown_line : (f : Bool) (c : ℕ) → all in_line (shown f c) ≡ true
shown_line true = shown_cases (λ (c : ℕ) (l : List ℕ). all in_line l ≡ true) true refl refl refl refl refl (λ c hn hr hb hs ht. rw (ne_eqb c 10 hn))
shown_line false = shown_cases (λ (c : ℕ) (l : List ℕ). all in_line l ≡ true) false refl refl refl refl refl (λ c hn hr hb hs ht. rw (ne_eqb c 10 hn))

escape_from_line : (f : Bool) (t : List ℕ) → all in_line (escape_from f t) ≡ true
unfolding escape_from
escape_from_line f [] = refl
escape_from_line f (c ∷ t) = all_append in_line (shown f c) (escape_from false t) (shown_line f c) (escape_from_line false t)

pub escape_line : (t : List ℕ) → all in_line (escape t) ≡ true
escape_line t = escape_from_line true t

pub escape_start : (t : List ℕ) → after is_blank (escape t) ≡ escape t
unfolding escape_from
escape_start [] = refl
escape_start (c ∷ t) = shown_cases (λ (c : ℕ) (l : List ℕ). after is_blank (l ++ escape_from false t) ≡ l ++ escape_from false t) true refl refl refl refl refl (λ c hn hr hb hs ht. rw (ne_eqb c 32 hs, ne_eqb c 9 ht)) c

-- ---- its length

shown_length : (f : Bool) (c : ℕ) → length (shown f c) ≤ 2
shown_length true = shown_cases (λ (c : ℕ) (l : List ℕ). length l ≤ 2) true (omega arith) (omega arith) (omega arith) (omega arith) (omega arith) (λ c hn hr hb hs ht. omega arith)
shown_length false = shown_cases (λ (c : ℕ) (l : List ℕ). length l ≤ 2) false (omega arith) (omega arith) (omega arith) (omega arith) (omega arith) (λ c hn hr hb hs ht. omega arith)

escape_from_length : (f : Bool) (t : List ℕ) → length (escape_from f t) ≤ 2 * length t
unfolding escape_from
escape_from_length f [] = omega arith
escape_from_length f (c ∷ t) = omega (arith, length-append (shown f c) (escape_from false t), shown_length f c, escape_from_length false t)

pub escape_length : (t : List ℕ) → length (escape t) ≤ 2 * length t
escape_length t = escape_from_length true t
