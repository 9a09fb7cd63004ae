-- Slots after a store.
use Prim.Native.Nat.{ℕ, ◌+◌, ◌<◌}
use native.Mathlib.Omega.{arith}
use mathlib.Core.Path.{◌≡◌, ◌∙◌}
use mathlib.Core.List.{List}
use lib.ListN.{length, get_or, set, length-set}
use lib.Seq.{get_or-set_same, get_or-set_other}
use Rattle.places.specs.Store.{slot_count, lines_from, codes_from, table_length, Slot, slot, stored}

four : {a b c d e f g h : ℕ} → a ≡ e → b ≡ f → c ≡ g → d ≡ h → ◌≡◌ {A = Slot} (record { start = a; end = b; line = c; code = d }) (record { start = e; end = f; line = g; code = h })
four p q r s = rw (p, q, r, s)

module _ (x : List ℕ) (i : ℕ) (s : Slot) (long : length x ≡ table_length) (h : i < slot_count) where
  abbrev one : List ℕ
  one = set x i s.start

  abbrev two : List ℕ
  two = set one (slot_count + i) s.end

  abbrev three : List ℕ
  three = set two (lines_from + i) s.line

  pub stored_long : length (stored i s x) ≡ table_length
  unfolding stored
  stored_long = simp length-set long

  pub stored_here : slot i (stored i s x) ≡ s
  unfolding stored
  stored_here =
      four
      (get_or-set_other three (codes_from + i) i s.code 0 (λ q. omega (arith, q)) ∙ get_or-set_other two (lines_from + i) i s.line 0 (λ q. omega (arith, q)) ∙ get_or-set_other one (slot_count + i) i s.end 0 (λ q. omega (arith, q)) ∙ get_or-set_same x i s.start 0 (omega (arith, long)))
      (get_or-set_other three (codes_from + i) (slot_count + i) s.code 0 (λ q. omega (arith, q)) ∙ get_or-set_other two (lines_from + i) (slot_count + i) s.line 0 (λ q. omega (arith, q)) ∙ get_or-set_same one (slot_count + i) s.end 0 (simp length-set (omega (arith, long))))
      (get_or-set_other three (codes_from + i) (lines_from + i) s.code 0 (λ q. omega (arith, q)) ∙ get_or-set_same two (lines_from + i) s.line 0 (simp length-set (omega (arith, long))))
      (get_or-set_same three (codes_from + i) s.code 0 (simp length-set (omega (arith, long))))

  pub stored_there : (j : ℕ) → j < slot_count → (j ≡ i → ⊥) → slot j (stored i s x) ≡ slot j x
  unfolding stored
  stored_there j k n =
      four
      (column j (λ q. n q) (λ q. omega (arith, q)) (λ q. omega (arith, q)) (λ q. omega (arith, q)))
      (column (slot_count + j) (λ q. omega (arith, q)) (λ q. n (omega (arith, q))) (λ q. omega (arith, q)) (λ q. omega (arith, q)))
      (column (lines_from + j) (λ q. omega (arith, q)) (λ q. omega (arith, q)) (λ q. n (omega (arith, q))) (λ q. omega (arith, q)))
      (column (codes_from + j) (λ q. omega (arith, q)) (λ q. omega (arith, q)) (λ q. omega (arith, q)) (λ q. n (omega (arith, q))))
    where
      column : (m : ℕ) → (m ≡ i → ⊥) → (m ≡ slot_count + i → ⊥) → (m ≡ lines_from + i → ⊥) → (m ≡ codes_from + i → ⊥) → get_or (set three (codes_from + i) s.code) m 0 ≡ get_or x m 0
      column m p q r t = get_or-set_other three (codes_from + i) m s.code 0 t ∙ get_or-set_other two (lines_from + i) m s.line 0 r ∙ get_or-set_other one (slot_count + i) m s.end 0 q ∙ get_or-set_other x i m s.start 0 p
