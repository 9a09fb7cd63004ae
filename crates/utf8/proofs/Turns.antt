-- The rows of the table by a first byte, the steps, and the turns of the loop.
use mathlib.Core.Path.{◌≡◌, refl, ap₂, sym, ◌∙◌}
use mathlib.Core.Bool.{Bool, true, false, cond, ◌&&◌, and-false, false≢true}
use mathlib.Core.List.{List, [], ◌∷◌}
use Rattle.std.specs.Prelude.{Option, None, Some}
use Prim.Native.Nat.{ℕ, zero, suc, ◌+◌, ◌-◌, ◌≤◌, ◌<◌}
use native.Mathlib.Nat.{le_refl}
use native.Mathlib.Numerals.{add-one}
use Rattle.std.proofs.lemmas.Slice.{between_to_end}
use native.Mathlib.Omega.{arith}
use borrow.Author.Tests.{eqb-true}
use lib.Dec.{eqb, eqb-suc-zero}
use lib.ListN.{length, drop, get_or, drop_of_length-le, replicate}
use lib.Seq.{drop-cons}
use Rattle.text.specs.Bytes.{between}
use Rattle.text.specs.Parts.{all, part}
use Rattle.text.specs.Scans.{Stop}
use Rattle.text.proofs.ScanLaws.{stop_after}
use Rattle.text.specs.Laws.{inside, over, and_true, below, below_at}
use Rattle.utf8.specs.Utf8.{Range, ◌to◌, follow, utf8_from, text, text_byte}
use Rattle.utf8.specs.Due.{pending, ranges, due_after, StepsOver}
use Rattle.utf8.specs.Laws.{text_after}
use Rattle.utf8.specs.declared.Due.{Due}

-- ---- the table: one computed test over its rows and the first bytes

abbrev alike : List Range → List Range → Bool
alike [] [] = true
alike [] (r ∷ rs) = false
alike (q ∷ qs) [] = false
alike (q ∷ qs) (r ∷ rs) = (eqb q.low r.low && eqb q.high r.high) && alike qs rs

alike_eq : (qs rs : List Range) → alike qs rs ≡ true → qs ≡ rs
alike_eq [] [] e = refl
alike_eq [] (r ∷ rs) e = absurd (false≢true e)
alike_eq (q ∷ qs) [] e = absurd (false≢true e)
alike_eq (q ∷ qs) (r ∷ rs) e =
    let both = and_true (eqb q.low r.low && eqb q.high r.high) (alike qs rs) e in
    let ends = and_true (eqb q.low r.low) (eqb q.high r.high) both.0 in
    ap₂ ◌∷◌ (ap₂ ◌to◌ (eqb-true _ _ ends.0) (eqb-true _ _ ends.1)) (alike_eq qs rs both.1)

record DueRow : Type 0 where
  low : ℕ
  high : ℕ
  due : Option Due

abbrev due_row : ℕ → ℕ → ℕ → ℕ → ℕ → DueRow
due_row l h m a b = record { low = l; high = h; due = Some (record { more = m; low = a; high = b }) }

abbrev no_row : ℕ → ℕ → DueRow
no_row l h = record { low = l; high = h; due = None }

-- the first bytes in increasing order, and what the code says is due after each
abbrev due_rows : List DueRow
due_rows =
    due_row 0 127 0 0 0
    ∷ no_row 128 193
    ∷ due_row 194 223 1 128 191
    ∷ due_row 224 224 2 160 191
    ∷ due_row 225 236 2 128 191
    ∷ due_row 237 237 2 128 159
    ∷ due_row 238 239 2 128 191
    ∷ due_row 240 240 3 144 191
    ∷ due_row 241 243 3 128 191
    ∷ due_row 244 244 3 128 143
    ∷ no_row 245 255
    ∷ []

abbrev nth_row : ℕ → DueRow
nth_row i = get_or due_rows i (no_row 1 0)

abbrev row_right : DueRow → ℕ → Bool
row_right r b = cond (between r.low r.high b) (alike (due_after r.due) (follow b)) true

tested : below (λ i. below (row_right (nth_row i)) 256) 11 ≡ true
unfolding follow
tested = refl

pub row : (i : ℕ) → i < 11 → {b : ℕ} → ((nth_row i).low ≤ b) × (b ≤ (nth_row i).high) × (b < 256) → due_after (nth_row i).due ≡ follow b
row i k {b} h =
    let t : row_right (nth_row i) b ≡ true = below_at (row_right (nth_row i)) 256 (below_at (λ (i : ℕ). below (row_right (nth_row i)) 256) 11 tested i k) b h.2 in
    alike_eq (due_after (nth_row i).due) (follow b) (rw (inside {x = b} (nth_row i).low (nth_row i).high h.0 h.1) at t)

-- ---- the steps

nothing : (s : List ℕ) → utf8_from (1 to 0 ∷ []) s ≡ false
unfolding utf8_from
nothing [] = refl
nothing (zero ∷ s) = refl
nothing (suc b ∷ s) = rw (over {x = suc b} 1 0 (omega arith))

tails : (n : ℕ) → replicate n (128 to 191) ≡ pending n 128 191
tails zero = refl
tails (suc n) = refl

pending_cons : (d : Due) → (d.more ≡ 0 → ⊥) → ranges d ≡ d.low to d.high ∷ pending (d.more - 1) 128 191
pending_cons d z = go d.more z
  where
    go : (m : ℕ) → (m ≡ 0 → ⊥) → pending m d.low d.high ≡ d.low to d.high ∷ pending (m - 1) 128 191
    go zero n = absurd (n refl)
    go (suc m) n = let e : suc m - 1 ≡ m = omega arith in rw (e, tails m)

module _ {d : Due} {b : ℕ} where
  pub step_first : d.more ≡ 0 → {r : Option Due} → due_after r ≡ follow b → StepsOver d b r
  unfolding utf8_from
  step_first z e = record { rest = λ s. rw (z, e) }

  module _ (z : d.more ≡ 0 → ⊥) where
    pub step_out : between d.low d.high b ≡ false → StepsOver d b None
    unfolding utf8_from
    step_out e = record { rest = λ s. rw (pending_cons d z, e) (sym (nothing s)) }

    pub step_next : between d.low d.high b ≡ true → StepsOver d b (Some (record { more = d.more - 1; low = 128; high = 191 }))
    unfolding utf8_from
    step_next e = record { rest = λ s. rw (pending_cons d z, e) }

-- ---- the loop

-- the rest t from i on is judged as the whole s is
pub record Turn (line : Bool) (s t : List ℕ) (i : ℕ) (d : Due) : Type 0 where
  pub rest : (all (text_byte line) (drop i t) && utf8_from (ranges d) (drop i t)) ≡ text line s

pub turn_first : (line : Bool) {s : List ℕ} {i : ℕ} → Stop (between 32 126) s 0 i → Turn line s (part i (length s) s) 0 (record { more = 0; low = 0; high = 0 })
turn_first line {s} {i} h = record { rest = rw (between_to_end s i (length s) (le_refl (length s)), ← stop_after h) (text_after line s) }

module _ {line : Bool} {s t : List ℕ} {i : ℕ} {d : Due} (h : Turn line s t i d) where
  pub turn_end : length t ≤ i → eqb d.more 0 ≡ text line s
  unfolding utf8_from
  turn_end l = go d.more refl
    where
      go : (m : ℕ) → m ≡ d.more → eqb m 0 ≡ text line s
      go zero e = rw (drop_of_length-le t l, ← e) at h.rest
      go (suc m) e = rw (eqb-suc-zero m) (rw (drop_of_length-le t l, ← e) at h.rest)

  module _ (l : i < length t) where
    pub turn_not : text_byte line (get_or t i 0) ≡ false → false ≡ text line s
    turn_not e = rw (drop-cons t i 0 l, e) at h.rest

    next : text_byte line (get_or t i 0) ≡ true → {r : Option Due} → StepsOver d (get_or t i 0) r →
        (all (text_byte line) (drop (suc i) t) && utf8_from (due_after r) (drop (suc i) t)) ≡ text line s
    next e g = rw (← g.rest (drop (suc i) t)) (rw (drop-cons t i 0 l, e) at h.rest)

    pub turn_out : text_byte line (get_or t i 0) ≡ true → StepsOver d (get_or t i 0) None → false ≡ text line s
    turn_out e g = sym (rw (nothing (drop (suc i) t), and-false (all (text_byte line) (drop (suc i) t)))) ∙ next e g

    pub turn : text_byte line (get_or t i 0) ≡ true → {r : Due} → StepsOver d (get_or t i 0) (Some r) → Turn line s t (i + 1) r
    turn e g = record { rest = rw (add-one i) (next e g) }
