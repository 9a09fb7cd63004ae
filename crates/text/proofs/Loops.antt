-- What the loop over trailing blanks keeps, a turn of it and its ends.
use mathlib.Core.Path.{◌≡◌, refl, ap, sym, ◌∙◌, subst}
use Prim.Native.Nat.{ℕ, suc, ◌+◌, ◌-◌, ◌≤◌, ◌<◌}
use native.Mathlib.Nat.{le_refl}
use native.Mathlib.Omega.{arith}
use mathlib.Core.Bool.{Bool, true, false, ◌&&◌, and_assoc, and-false}
use mathlib.Core.List.{List, [], ◌∷◌, ◌++◌}
use lib.ListN.{length, take, drop, get_or, length-drop}
use lib.Seq.{take-suc, get_or-drop, take_all}
use Rattle.text.specs.Bytes.{is_blank}
use Rattle.text.specs.Parts.{all, part, trimmed}
use Rattle.text.specs.Scans.{Trim}

-- ---- trailing blanks

pub record Trimming (s : List ℕ) (from e : ℕ) : Type 0 where
  pub low : from ≤ e
  pub within : e ≤ length s
  pub rest : trimmed (part from e s) ≡ trimmed (drop from s)

and_true_right : (t : Bool) → (t && true) ≡ t
and_true_right true = refl
and_true_right false = refl

all_snoc : (p : ℕ → Bool) (xs : List ℕ) (b : ℕ) → all p (xs ++ (b ∷ [])) ≡ (all p xs && p b)
all_snoc p [] b = and_true_right (p b)
all_snoc p (x ∷ xs) b = ap (λ (t : Bool). p x && t) (all_snoc p xs b) ∙ sym (and_assoc (p x) (all p xs) (p b))

trimmed_blank : (xs : List ℕ) (b : ℕ) → is_blank b ≡ true → trimmed (xs ++ (b ∷ [])) ≡ trimmed xs
trimmed_blank [] b e = rw e
trimmed_blank (x ∷ xs) b e = rw (all_snoc is_blank xs b, e, trimmed_blank xs b e, and_true_right)

trimmed_keep : (xs : List ℕ) (b : ℕ) → is_blank b ≡ false → trimmed (xs ++ (b ∷ [])) ≡ xs ++ (b ∷ [])
trimmed_keep [] b e = rw e
trimmed_keep (x ∷ xs) b e = rw (all_snoc is_blank xs b, e, trimmed_keep xs b e, and-false (all is_blank xs), and-false (is_blank x))

part_last : (s : List ℕ) (from e : ℕ) → from < e → e ≤ length s → part from e s ≡ part from (e - 1) s ++ (get_or s (e - 1) 0 ∷ [])
part_last s from e h k =
    let j : ℕ = e - 1 - from in
    let a : e - from ≡ suc j = omega arith in
    let b : from + j ≡ e - 1 = omega arith in
    let l : j < length (drop from s) = simp length-drop (omega arith) in
    ap (λ (n : ℕ). take n (drop from s)) a
    ∙ take-suc (drop from s) j 0 l
    ∙ ap (λ (x : ℕ). take j (drop from s) ++ (x ∷ [])) (get_or-drop from s j 0 ∙ ap (λ (n : ℕ). get_or s n 0) b)

pub trim_first : (s : List ℕ) (from : ℕ) → from ≤ length s → Trimming s from (length s)
trim_first s from l =
    record {
      low = l;
      within = le_refl (length s);
      rest = ap trimmed (take_all (length s - from) (drop from s) (simp length-drop (le_refl _)));
    }

module _ {s : List ℕ} {from e : ℕ} (h : Trimming s from e) where
  pub trim_turn : from < e → is_blank (get_or s (e - 1) 0) ≡ true → Trimming s from (e - 1)
  trim_turn l b =
      record {
        low = omega arith;
        within = omega (arith, h.within);
        rest = sym (ap trimmed (part_last s from e l h.within) ∙ trimmed_blank (part from (e - 1) s) (get_or s (e - 1) 0) b) ∙ h.rest;
      }

  pub trim_stop : from < e → is_blank (get_or s (e - 1) 0) ≡ false → Trim s from (e - 1 + 1)
  trim_stop l b =
      let v : e ≡ e - 1 + 1 = omega arith in
      subst (λ (x : ℕ). Trim s from x) v (
      record {
        low = h.low;
        within = h.within;
        is = part_last s from e l h.within ∙ sym (ap trimmed (part_last s from e l h.within) ∙ trimmed_keep (part from (e - 1) s) (get_or s (e - 1) 0) b) ∙ h.rest;
      })

  pub trim_end : e ≤ from → Trim s from e
  trim_end l =
      let z : e - from ≡ 0 = omega arith in
      record {
        low = h.low;
        within = h.within;
        is = ap (λ (n : ℕ). take n (drop from s)) z ∙ sym (ap (λ (n : ℕ). trimmed (take n (drop from s))) z) ∙ h.rest;
      }
