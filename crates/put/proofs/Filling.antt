-- A text that may be broken, read into the front of a buffer byte by byte; and an array filled from its front.
use mathlib.Core.Path.{◌≡◌, refl, ap, sym, ◌∙◌, subst}
use mathlib.Core.List.{List, [], ◌∷◌, ◌++◌, append-nil}
use Rattle.std.specs.Prelude.{Option, None, Some}
use Prim.Native.Nat.{ℕ, zero, suc, ◌+◌, ◌-◌, ◌≤◌, ◌<◌}
use native.Mathlib.Nat.{zero-add, sub-zero, zero-sub, suc-sub-suc}
use native.Mathlib.Numerals.{add-one}
use native.Mathlib.Omega.{arith}
use lib.ListN.{length, take, drop, set, length-append, length-set, take-append-drop, replicate}
use lib.Seq.{drop-cons, take-suc-set, drop-set-lt, length-take-le}
use Rattle.text.specs.Options.{prepend, glue, or_empty, ReadsUpTo}
use Rattle.text.specs.OptionLaws.{glue_prepend, glue_nil}
use Rattle.text.specs.Parts.{padded}
use Rattle.put.specs.Put.{Wrote}

-- the first n bytes of x are read, r is still to be read, and t is the whole
pub record Filling (t r : Option (List ℕ)) (n : ℕ) (o x : List ℕ) : Type 0 where
  pub read : glue (take n x) r ≡ t
  pub room : n ≤ length x
  pub long : length x ≡ length o
  pub rest : drop n x ≡ drop n o
  pub fits : ReadsUpTo (length o) t

pub filling_first : (t : Option (List ℕ)) (o : List ℕ) → ReadsUpTo (length o) t → Filling t t 0 o o
filling_first t o f = record { read = glue_nil t; room = omega arith; long = refl; rest = refl; fits = f }

fits_more : (t : List ℕ) (x m : ℕ) (o : Option (List ℕ)) → ReadsUpTo m (glue t (prepend x o)) → length t < m
fits_more t x m None f = absurd f
fits_more t x m (Some u) f = omega (arith, simp length-append at f)

abbrev tail : List ℕ → List ℕ
tail [] = []
tail (y ∷ ys) = ys

module _ {t r : Option (List ℕ)} {n : ℕ} {o x : List ℕ} (h : Filling t r n o x) where
  pub filling_none : r ≡ None → ⊥
  filling_none e = subst (ReadsUpTo (length o)) (sym h.read ∙ ap (glue (take n x)) e) h.fits

  pub filling_end : r ≡ Some [] → Wrote (or_empty t) 0 o x n
  filling_end e =
      let k : length (take n x) ≡ n = length-take-le n x h.room in
      let w : t ≡ Some (take n x) = sym h.read ∙ ap (glue (take n x)) e ∙ ap Some (append-nil (take n x)) in
      rw w (record { next = omega arith; room = omega (arith, h.room, h.long); long = h.long; text = sym (rw (k, zero-add n, ← h.rest) (take-append-drop n x)) })

  module _ (y : ℕ) (q : Option (List ℕ)) (e : r ≡ prepend y q) where
    pub filling_room : n < length x
    filling_room = omega (arith, fits_more (take n x) y (length o) q (subst (ReadsUpTo (length o)) (sym h.read ∙ ap (glue (take n x)) e) h.fits), length-take-le n x h.room, h.long)

    next : drop (suc n) x ≡ drop (suc n) o
    next = let k : n < length o = omega (arith, h.long, filling_room) in ap tail (sym (drop-cons x n 0 filling_room) ∙ h.rest ∙ drop-cons o n 0 k)

    pub filling_byte : Filling t q (n + 1) o (set x n y)
    filling_byte =
        record {
          read = rw (add-one n, take-suc-set x n y filling_room) (sym (glue_prepend (take n x) y q) ∙ ap (glue (take n x)) (sym e) ∙ h.read);
          room = rw (length-set x n y) (omega (arith, filling_room));
          long = length-set x n y ∙ h.long;
          rest = rw (add-one n, drop-set-lt (suc n) x n y (omega arith), next);
          fits = h.fits;
        }

drop_zeros : (k n : ℕ) → ◌≡◌ {A = List ℕ} (drop k (replicate n 0)) (replicate (n - k) 0)
drop_zeros zero n = rw sub-zero
drop_zeros (suc k) zero = rw zero-sub
drop_zeros (suc k) (suc n) = rw suc-sub-suc (drop_zeros k n)

pub padded_by : (n : ℕ) {t x : List ℕ} {r : ℕ} → Wrote t 0 (replicate n 0) x r → x ≡ padded n t
padded_by n {t} w = w.text ∙ rw (zero-add (length t)) (ap (λ (l : List ℕ). t ++ l) (drop_zeros (length t) n))
