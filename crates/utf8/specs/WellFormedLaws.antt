-- `utf8` holds of a text exactly where it is well-formed by the table.
use Rattle.std.specs.Prelude.{ℕ, suc, ◌≤◌, ◌≡◌, refl, Bool, true, false, cond, List, [], ◌∷◌, ◌++◌}
use Rattle.std.proofs.Common.{arith, ap, ◌∙◌, subst, inl, inr}
use Rattle.std.proofs.lemmas.Bool.{false≢true}
use Rattle.text.specs.Bytes.{between}
use Rattle.text.specs.Relations.{Any, Pairwise}
use Rattle.text.specs.Laws.{and_true, inside, over, between_low, between_high}
use Rattle.utf8.specs.Utf8.{Range, ◌to◌, follow, utf8_from, utf8}
use Rattle.utf8.specs.WellFormed.{byte_sequences, InRange, Character, WellFormedUtf8, no_more, character}
use Rattle.utf8.specs.Laws.{utf8_append}

-- ---- rows

-- the ranges behind the first byte b in the first row that begins with it
abbrev found : ℕ → List (List Range) → List Range
found b [] = 1 to 0 ∷ []
found b ([] ∷ rows) = found b rows
found b ((r ∷ row) ∷ rows) = cond (between r.low r.high b) row (found b rows)

follow_found : (b : ℕ) → follow b ≡ found b byte_sequences
unfolding follow
follow_found b = refl

-- rows whose first ranges begin at n or above, each behind the one before
abbrev Apart : ℕ → List (List Range) → Type 0
Apart n [] = Unit
Apart n ([] ∷ rows) = ⊥
Apart n ((r ∷ row) ∷ rows) = (n ≤ r.low) × (r.low ≤ r.high) × Apart (suc r.high) rows

table_apart : Apart 0 byte_sequences
table_apart =
    (omega arith, omega arith, (omega arith, omega arith, (omega arith, omega arith, (omega arith, omega arith, (omega arith, omega arith, (omega arith, omega arith, (omega arith, omega arith, (omega arith, omega arith, (omega arith, omega arith, tt)))))))))

-- the bytes of one of the rows
abbrev InRow : List (List Range) → List ℕ → Type 0
InRow rows q = Any (λ row. Pairwise InRange row q) rows

within_between : (r : Range) (b : ℕ) → InRange r b → between r.low r.high b ≡ true
within_between r b h = inside {x = b} r.low r.high h.least h.most

between_within : (r : Range) (b : ℕ) → between r.low r.high b ≡ true → InRange r b
between_within r b h =
    record { least = between_low {x = b} r.low r.high h; most = between_high {x = b} r.low r.high h }

-- a first byte is no less than where the rows begin
row_least : (n b : ℕ) (q : List ℕ) (rows : List (List Range)) → Apart n rows → InRow rows (b ∷ q) → n ≤ b
row_least n b q [] a h = absurd h
row_least n b q ([] ∷ rows) a h = absurd a
row_least n b q ((r ∷ row) ∷ rows) a (inl h) = let l = h.0.least in let m = a.0 in omega arith
row_least n b q ((r ∷ row) ∷ rows) a (inr h) =
    let l = row_least (suc r.high) b q rows a.2 h in let m = a.0 in let k = a.1 in omega arith

row_found : (n b : ℕ) (q : List ℕ) (rows : List (List Range)) → Apart n rows → InRow rows (b ∷ q) →
    Pairwise InRange (found b rows) q
row_found n b q [] a h = absurd h
row_found n b q ([] ∷ rows) a h = absurd a
row_found n b q ((r ∷ row) ∷ rows) a (inl h) = rw (within_between r b h.0) h.1
row_found n b q ((r ∷ row) ∷ rows) a (inr h) =
    let l = row_least (suc r.high) b q rows a.2 h in
    rw (over {x = b} r.low r.high l) (row_found (suc r.high) b q rows a.2 h)

found_row : (b : ℕ) (q : List ℕ) (rows : List (List Range)) → Pairwise InRange (found b rows) q → InRow rows (b ∷ q)
found_row b [] [] h = absurd h
found_row b (x ∷ q) [] h = let l = h.0.least in let m = h.0.most in absurd (omega arith)
found_row b q ([] ∷ rows) h = inr (found_row b q rows h)
found_row b q ((r ∷ row) ∷ rows) h = go (between r.low r.high b) refl (λ k. found_row b q rows k) h
  where
    go : (t : Bool) → between r.low r.high b ≡ t → (Pairwise InRange (found b rows) q → InRow rows (b ∷ q)) →
        Pairwise InRange (cond t row (found b rows)) q → InRow ((r ∷ row) ∷ rows) (b ∷ q)
    go true e f h = inl (between_within r b e, h)
    go false e f h = inr (f h)

-- ---- a text

ranges_from : (rs : List Range) (q : List ℕ) → Pairwise InRange rs q → utf8_from rs q ≡ true
unfolding utf8_from
ranges_from [] [] h = refl
ranges_from [] (b ∷ q) h = absurd h
ranges_from (r ∷ rs) [] h = absurd h
ranges_from (r ∷ rs) (b ∷ q) h = rw (within_between r b h.0) (ranges_from rs q h.1)

character_utf8 : (q : List ℕ) → Character q → utf8 q ≡ true
unfolding utf8_from
character_utf8 [] h = refl
character_utf8 (b ∷ q) h = ranges_from (follow b) q (rw (follow_found b) (row_found 0 b q byte_sequences table_apart h))

pub formed_utf8 : {s : List ℕ} → WellFormedUtf8 s → utf8 s ≡ true
unfolding utf8_from
formed_utf8 no_more = refl
formed_utf8 (character bytes {rest} h k) = utf8_append bytes rest (character_utf8 bytes h) ∙ formed_utf8 k

-- bytes of these ranges, and then a well-formed text
record Goes (rs : List Range) (s : List ℕ) : Type 0 where
  bytes : List ℕ
  rest : List ℕ
  is : bytes ++ rest ≡ s
  within : Pairwise InRange rs bytes
  formed : WellFormedUtf8 rest

goes_formed : (b : ℕ) (s : List ℕ) → Goes (follow b) s → WellFormedUtf8 (b ∷ s)
goes_formed b s g =
    let h = found_row b g.bytes byte_sequences (subst (λ (rs : List Range). Pairwise InRange rs g.bytes) (follow_found b) g.within) in
    subst WellFormedUtf8 (ap (λ (l : List ℕ). b ∷ l) g.is) (character (b ∷ g.bytes) h g.formed)

from_goes : (rs : List Range) (s : List ℕ) → utf8_from rs s ≡ true → Goes rs s
unfolding utf8_from
from_goes [] [] e = record { bytes = []; rest = []; is = refl; within = tt; formed = no_more }
from_goes (r ∷ rs) [] e = absurd (false≢true e)
from_goes [] (b ∷ s) e =
    record { bytes = []; rest = b ∷ s; is = refl; within = tt; formed = goes_formed b s (from_goes (follow b) s e) }
from_goes (r ∷ rs) (b ∷ s) e =
    let f = and_true (between r.low r.high b) (utf8_from rs s) e in
    let k = from_goes rs s f.1 in
    record { bytes = b ∷ k.bytes; rest = k.rest; is = ap (λ (l : List ℕ). b ∷ l) k.is; within = (between_within r b f.0, k.within); formed = k.formed }

pub utf8_formed : (s : List ℕ) → utf8 s ≡ true → WellFormedUtf8 s
utf8_formed s e = let g = from_goes [] s e in none_due g.bytes g.rest g.within g.is g.formed
  where
    none_due : (q r : List ℕ) → Pairwise InRange [] q → q ++ r ≡ s → WellFormedUtf8 r → WellFormedUtf8 s
    none_due [] r h i k = subst WellFormedUtf8 i k
    none_due (x ∷ q) r h i k = absurd h
