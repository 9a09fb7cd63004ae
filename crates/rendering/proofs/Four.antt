-- Four texts, each written at the front of what the ones before it left, where the whole has room.
use Prim.Native.Nat.{ℕ, ◌+◌, ◌-◌, ◌≤◌}
use native.Mathlib.Omega.{arith}
use mathlib.Core.Path.{◌≡◌, ap, sym, subst}
use mathlib.Core.List.{List, ◌++◌}
use borrow.Rule.Slice.PartMut.{put_mid, mid_of}
use lib.ListN.{length, drop, length-append, length-drop}
use lib.Seq.{take_all}
use Rattle.put.specs.Put.{Wrote}
use Rattle.put.specs.Laws.{then_rest}

-- where two texts have room, what the first leaves has room for the second
rest_room : {t o x : List ℕ} {a : ℕ} → Wrote t 0 o x a → (u : List ℕ) → length (t ++ u) ≤ length o → length u ≤ length (mid_of a (length x - a) x)
rest_room {t} {o} {x} {a} w u h =
    let n : length (drop a x) ≤ length x - a = omega (arith, length-drop a x) in
    let e : length (mid_of a (length x - a) x) ≡ length (drop a x) = ap length (take_all (length x - a) (drop a x) n) in
    omega (arith, e, length-drop a x, w.next, w.long, h, length-append t u)

pub record Four (w s c i v : List ℕ) : Type 0 where
  pub is : w ≡ s ++ c ++ i ++ v

module _ {w s c i v : List ℕ} (four : Four w s c i v) (o : List ℕ) (room : length w ≤ length o) where
  whole : length (s ++ c ++ i ++ v) ≤ length o
  whole = subst (λ (l : List ℕ). length l ≤ length o) four.is room

  front : length (s ++ c ++ i) ≤ length o
  front = omega (arith, length-append (s ++ c ++ i) v, whole)

  pub four_first : length s ≤ length o
  four_first = omega (arith, front, length-append (s ++ c) i, length-append s c)

  module _ {x : List ℕ} {a : ℕ} (f : Wrote s 0 o x a) where
    pub four_second : length c ≤ length (mid_of a (length x - a) x)
    four_second = rest_room f c (omega (arith, front, length-append (s ++ c) i))

    module _ {y : List ℕ} {b : ℕ} (g : Wrote c 0 (mid_of a (length x - a) x) y b) where
      two : Wrote (s ++ c) 0 o (put_mid a (length x - a) x y) (a + b)
      two = then_rest f g

      pub four_third : length i ≤ length (mid_of (a + b) (length (put_mid a (length x - a) x y) - (a + b)) (put_mid a (length x - a) x y))
      four_third = rest_room two i front

      module _ {z : List ℕ} {d : ℕ} (h : Wrote i 0 (mid_of (a + b) (length (put_mid a (length x - a) x y) - (a + b)) (put_mid a (length x - a) x y)) z d) where
        three : Wrote (s ++ c ++ i) 0 o (put_mid (a + b) (length (put_mid a (length x - a) x y) - (a + b)) (put_mid a (length x - a) x y) z) (a + b + d)
        three = then_rest two h

        abbrev left : List ℕ
        left = put_mid (a + b) (length (put_mid a (length x - a) x y) - (a + b)) (put_mid a (length x - a) x y) z

        pub four_fourth : length v ≤ length (mid_of (a + b + d) (length left - (a + b + d)) left)
        four_fourth = rest_room three v whole

        pub four_wrote : {q : List ℕ} {n : ℕ} → Wrote v 0 (mid_of (a + b + d) (length left - (a + b + d)) left) q n → Wrote w 0 o (put_mid (a + b + d) (length left - (a + b + d)) left q) (a + b + d + n)
        four_wrote {q} {n} k = subst (λ (l : List ℕ). Wrote l 0 o (put_mid (a + b + d) (length left - (a + b + d)) left q) (a + b + d + n)) (sym four.is) (then_rest three k)
