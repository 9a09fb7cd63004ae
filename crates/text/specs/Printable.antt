-- Printable ASCII: a text is printable where its pieces are, and the byte between them.
use Rattle.std.specs.Prelude.{ℕ, ◌≤◌, ◌≡◌, Bool, true, List, ◌∷◌}
use Rattle.std.proofs.Common.{arith}
use Rattle.text.specs.Bytes.{between, is_digit}
use Rattle.text.specs.Parts.{all}
use Rattle.text.specs.Pieces.{Pieces, last, next}
use Rattle.text.specs.Relations.{Each}
use Rattle.text.specs.Laws.{inside, between_low, between_high, all_append, all_weaken}

-- bytes 32 to 126, and a text of them
abbrev pub is_printable : ℕ → Bool
is_printable x = between 32 126 x

abbrev pub Printable : List ℕ → Type 0
Printable s = all is_printable s ≡ true

pub range_printable : (a b : ℕ) → 32 ≤ a → b ≤ 126 → (x : ℕ) → between a b x ≡ true → is_printable x ≡ true
range_printable a b l h x e =
    inside {x = x} 32 126 (omega (arith, between_low {x = x} a b e)) (omega (arith, between_high {x = x} a b e))

pub digits_printable : (s : List ℕ) → all is_digit s ≡ true → Printable s
digits_printable s h = all_weaken is_digit is_printable (range_printable 48 57 (omega arith) (omega arith)) s h

pub pieces_printable : (b : ℕ) → is_printable b ≡ true → {v : List ℕ} {ps : List (List ℕ)} → Pieces b v ps →
    Each Printable ps → Printable v
pieces_printable b h (last k) e = e.0
pieces_printable b h (next {p} {rest} k r) e =
    all_append is_printable p (b ∷ rest) e.0 (rw h (pieces_printable b h r e.1))
