-- The first "::" of a text found by index: what the reader keeps of the bytes that it has passed over.
use mathlib.Core.Path.{◌≡◌, refl, ap, sym, ◌∙◌}
use mathlib.Core.Bool.{Bool, true, false, cond, ◌&&◌}
use mathlib.Core.List.{List, [], ◌∷◌, ◌++◌, append-nil}
use Rattle.std.specs.Prelude.{None, Some}
use Prim.Native.Nat.{ℕ, zero, suc, ◌+◌, ◌-◌, ◌≤◌, ◌<◌}
use native.Mathlib.Omega.{arith}
use borrow.Author.Tests.{eq-eqb, ne_eqb}
use lib.Dec.{eqb}
use lib.ListN.{length, take, drop, get_or, length-drop}
use lib.Seq.{take-suc, append_snoc, drop-drop}
use Rattle.text.specs.Laws.{view_more}
use Rattle.ipv6.specs.Ipv6.{starts, Halves, infront, halves}
use Rattle.ipv6.specs.HalfLaws.{shift, shift_nil}
use Rattle.ipv6.specs.Places.{Gap}

shift_snoc : (t : List ℕ) (x : ℕ) (o : Halves) → shift (t ++ (x ∷ [])) o ≡ shift t (infront x o)
shift_snoc t x None = refl
shift_snoc t x (Some h) = ap (λ (l : List ℕ). Some (l, h.1)) (append_snoc t x h.0)

starts_at : (s : List ℕ) (k : ℕ) → starts 58 (drop k s) ≡ eqb (get_or s k 0) 58
starts_at [] zero = refl
starts_at [] (suc k) = refl
starts_at (x ∷ s) zero = refl
starts_at (x ∷ s) (suc k) = starts_at s k

halves_none : (s : List ℕ) → length s ≤ 1 → halves s ≡ None
unfolding halves
halves_none [] h = refl
halves_none (x ∷ []) h = go (eqb x 58)
  where
    go : (t : Bool) → cond {A = Halves} (t && false) (Some ([], [])) None ≡ None
    go true = refl
    go false = refl
halves_none (x ∷ y ∷ s) h = absurd (omega arith)

-- no "::" starts before i - 1
pub record Seeking (s : List ℕ) (i : ℕ) : Type 0 where
  pub low : 1 ≤ i
  pub rest : halves s ≡ shift (take (i - 1) s) (halves (drop (i - 1) s))

pub seeking_first : (s : List ℕ) → Seeking s 1
seeking_first s = record { low = omega arith; rest = sym (shift_nil (halves s)) }

module _ {s : List ℕ} {i : ℕ} (h : Seeking s i) where
  pub seeking_end : length s ≤ i → halves s ≡ None
  seeking_end l =
      let k : length (drop (i - 1) s) ≤ 1 = simp length-drop (omega (arith, h.low)) in
      h.rest ∙ rw (halves_none (drop (i - 1) s) k)

  module _ (l : i - 1 < length s) where
    here : halves (drop (i - 1) s) ≡ cond (eqb (get_or s (i - 1) 0) 58 && eqb (get_or s i 0) 58) (Some ([], drop (i - 1 + 2) s)) (infront (get_or s (i - 1) 0) (halves (drop i s)))
    unfolding halves
    here =
        let k : i - 1 + 1 ≡ i = omega (arith, h.low) in
        let e : i + 1 ≡ i - 1 + 2 = omega (arith, h.low) in
        let d : drop 1 (drop i s) ≡ drop (i - 1 + 2) s = drop-drop 1 i s ∙ ap (λ (n : ℕ). drop n s) e in
        ap halves (view_more s (i - 1) l) ∙ rw (k, starts_at s i, d)

    apart : (eqb (get_or s (i - 1) 0) 58 && eqb (get_or s i 0) 58) ≡ false → Seeking s (i + 1)
    apart e =
        let j : i + 1 - 1 ≡ i = omega arith in
        let k : suc (i - 1) ≡ i = omega (arith, h.low) in
        let passed : halves (drop (i - 1) s) ≡ infront (get_or s (i - 1) 0) (halves (drop i s)) = here ∙ rw e in
        let more : take i s ≡ take (i - 1) s ++ (get_or s (i - 1) 0 ∷ []) = rw k at (take-suc s (i - 1) 0 l) in
        record { low = omega arith; rest = h.rest ∙ rw (j, passed, more) (sym (shift_snoc (take (i - 1) s) (get_or s (i - 1) 0) (halves (drop i s)))) }

    pub seeking_other : (get_or s (i - 1) 0 ≡ 58 → ⊥) → Seeking s (i + 1)
    seeking_other e = apart (rw (ne_eqb (get_or s (i - 1) 0) 58 e))

    before : (get_or s i 0 ≡ 58 → ⊥) → Seeking s (i + 1)
    before e = apart (rw (ne_eqb (get_or s i 0) 58 e) (go (eqb (get_or s (i - 1) 0) 58)))
      where
        go : (t : Bool) → (t && false) ≡ false
        go true = refl
        go false = refl

    pub seeking_found : i < length s → get_or s (i - 1) 0 ≡ 58 → get_or s i 0 ≡ 58 → Gap s (i - 1)
    seeking_found k e f =
        let found : halves (drop (i - 1) s) ≡ Some ([], drop (i - 1 + 2) s) = here ∙ rw (eq-eqb (get_or s (i - 1) 0) 58 e, eq-eqb (get_or s i 0) 58 f) in
        record { is = h.rest ∙ rw (found, append-nil (take (i - 1) s)); room = omega arith }

pub seeking_both : {s : List ℕ} {i : ℕ} → Seeking s i → i < length s → (get_or s i 0 ≡ 58 → ⊥) → Seeking s (i + 2)
seeking_both {s} {i} h l e =
    let j : i + 1 - 1 ≡ i = omega arith in
    let k : i + 1 + 1 ≡ i + 2 = omega arith in
    rw k at (seeking_other (before h (omega arith) e) (omega arith) (rw j e))
