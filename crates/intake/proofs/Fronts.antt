-- A buffer that keeps the front of a text, with more behind the text.
use mathlib.Core.Path.{◌≡◌, ap, ap₂, sym, ◌∙◌}
use mathlib.Core.List.{List, [], ◌∷◌, ◌++◌}
use Prim.Native.Nat.{ℕ, zero, suc, ◌+◌, ◌-◌, ◌≤◌, ◌<◌}
use native.Mathlib.Nat.{sub-zero}
use native.Mathlib.Omega.{arith}
use lib.ListN.{length, take, drop, length-append, length-take}
use lib.Seq.{take_all, take-nil, take_at, length-take-le}
use Rattle.text.specs.Parts.{part}
use Rattle.intake.specs.Input.{Front}
use Rattle.intake.specs.Steps.{Appended}

-- as much of two texts as there is room for
take_both : (m : ℕ) (t s : List ℕ) → take m (t ++ s) ≡ take m t ++ take (m - length t) s
take_both zero [] s = sym (ap (λ (n : ℕ). take n s) (sub-zero 0))
take_both zero (x ∷ t) s = ap (λ (n : ℕ). take n s) (let z : 0 ≡ 0 - length (x ∷ t) = omega arith in z)
take_both (suc m) [] s = sym (ap (λ (n : ℕ). take n s) (sub-zero (suc m)))
take_both (suc m) (x ∷ t) s = ap (λ (l : List ℕ). x ∷ l) (take_both m t s ∙ ap (λ (n : ℕ). take m t ++ take n s) (let z : m - length t ≡ suc m - length (x ∷ t) = omega arith in z))

-- ---- the front of a buffer with s behind

module _ {s o x : List ℕ} {a r : ℕ} (p : Appended s a o x r) where
  pub appended_long : length x ≡ length o
  appended_long = p.wrote.long

  pub appended_within : r ≤ length o
  appended_within = p.wrote.room

  pub appended_front : (t : List ℕ) → Front o a t → Front x r (t ++ s)
  appended_front t f = record { count = counted; text = held ∙ sym whole }
    where
      put : List ℕ
      put = take (length o - a) s

      room : length o - length t ≡ length o - a
      room = omega (arith, f.count, length-take (length o) t)

      whole : take (length x) (t ++ s) ≡ take a o ++ put
      whole = ap (λ (m : ℕ). take m (t ++ s)) appended_long ∙ take_both (length o) t s ∙ ap₂ (λ (p : List ℕ) (n : ℕ). p ++ take n s) (sym f.text) room

      long : length (take a o ++ put) ≡ r
      long = length-append (take a o) put ∙ (let z : length (take a o) + length put ≡ r = omega (arith, length-take-le a o (omega (arith, p.wrote.room, p.wrote.next)), p.wrote.next) in z)

      held : take r x ≡ take a o ++ put
      held = ap (take r) p.wrote.text ∙ take_at (take a o ++ put) (drop (a + length put) o) r long

      counted : r ≡ length (take (length x) (t ++ s))
      counted = sym long ∙ ap length (sym whole)

-- nothing is kept of no text
pub front_none : (b : List ℕ) → Front b 0 []
front_none b = record { count = ap length (sym (take-nil (length b))); text = sym (take-nil (length b)) }

-- a front that leaves room is the whole text
pub front_whole : {b t : List ℕ} {n : ℕ} → Front b n t → n < length b → take n b ≡ t
front_whole {b} {t} {n} f l = f.text ∙ take_all (length b) t (omega (arith, f.count, length-take (length b) t))

-- a front by its place in the buffer
pub front_part : {b t : List ℕ} {n : ℕ} → Front b n t → part 0 n b ≡ take (length b) t
front_part {b} {t} {n} f = ap (λ (m : ℕ). take m b) (sub-zero n) ∙ f.text
