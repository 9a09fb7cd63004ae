-- Laws of UTF-8 and of texts: what is written piece by piece, and printable ASCII.
use Rattle.std.specs.Prelude.{◌≡◌, refl, Bool, true, false, ◌&&◌, List, [], ◌∷◌, ◌++◌, ℕ, ◌≤◌}
use Rattle.std.proofs.lemmas.Bool.{false≢true}
use Rattle.std.proofs.Common.{ap, arith, ne_eqb}
use Rattle.text.specs.Bytes.{between}
use Rattle.text.specs.Parts.{all, after}
use Rattle.text.specs.Laws.{and_true, all_cons, inside, between_low, between_high}
use Rattle.text.specs.Printable.{is_printable, Printable}
use Rattle.utf8.specs.Utf8.{Range, follow, utf8_from, utf8, text_byte, text}

from_append : (rs : List Range) (s t : List ℕ) → utf8_from rs s ≡ true → utf8_from rs (s ++ t) ≡ utf8 t
unfolding utf8_from
from_append [] [] t h = refl
from_append (r ∷ rs) [] t h = absurd (false≢true h)
from_append [] (b ∷ s) t h = from_append (follow b) s t h
from_append (r ∷ rs) (b ∷ s) t h = rw (and_true (between r.low r.high b) (utf8_from rs s) h).0 (from_append rs s t (and_true (between r.low r.high b) (utf8_from rs s) h).1)

pub utf8_append : (s t : List ℕ) → utf8 s ≡ true → utf8 (s ++ t) ≡ utf8 t
utf8_append s t h = from_append [] s t h

-- ---- printable ASCII, bytes 32 to 126

pub follow_ascii : (b : ℕ) → b ≤ 127 → follow b ≡ []
unfolding follow
follow_ascii b h = rw (inside {x = b} 0 127 (omega arith) h)

pub utf8_printable : (b : ℕ) (s : List ℕ) → is_printable b ≡ true → utf8 (b ∷ s) ≡ utf8 s
unfolding utf8_from
utf8_printable b s h = ap (λ (rs : List Range). utf8_from rs s) (follow_ascii b (omega (arith, between_high {x = b} 32 126 h)))

pub printable_text : (line : Bool) (b : ℕ) → is_printable b ≡ true → text_byte line b ≡ true
printable_text line b h = go line
  where
    low : 32 ≤ b
    low = between_low {x = b} 32 126 h

    go : (line : Bool) → text_byte line b ≡ true
    go true = rw (ne_eqb b 0 (λ e. omega (arith, e, low)), ne_eqb b 13 (λ e. omega (arith, e, low)))
    go false = rw (ne_eqb b 0 (λ e. omega (arith, e, low)))

-- a text without its printable front
pub text_after : (line : Bool) (s : List ℕ) →
    (all (text_byte line) (after is_printable s) && utf8 (after is_printable s)) ≡ text line s
unfolding text
text_after line [] = refl
text_after line (b ∷ s) = go (is_printable b) refl (text_after line s)
  where
    go : (t : Bool) → is_printable b ≡ t →
        (all (text_byte line) (after is_printable s) && utf8 (after is_printable s)) ≡ text line s →
        (all (text_byte line) (after is_printable (b ∷ s)) && utf8 (after is_printable (b ∷ s))) ≡ (all (text_byte line) (b ∷ s) && utf8 (b ∷ s))
    go true e ih = rw (e, printable_text line b e, utf8_printable b s e) ih
    go false e ih = rw e

pub text_printable : (line : Bool) (s : List ℕ) → Printable s → text line s ≡ true
unfolding text utf8_from
text_printable line [] h = refl
text_printable line (b ∷ s) h = rw (printable_text line b (all_cons is_printable b s h).0, utf8_printable b s (all_cons is_printable b s h).0) (text_printable line s (all_cons is_printable b s h).1)
