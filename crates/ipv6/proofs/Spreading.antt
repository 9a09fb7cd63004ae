-- The two sides of "::" made one address, and each return of the reader of an address.
use mathlib.Core.Path.{◌≡◌, refl, ap, sym, ◌∙◌, subst}
use mathlib.Core.Bool.{Bool, true, false}
use mathlib.Core.List.{List, [], ◌∷◌, ◌++◌, append_assoc, append-nil}
use Rattle.std.specs.Prelude.{Option, None, Some}
use Rattle.std.proofs.lemmas.Option.{same_Some, none-some}
use Prim.Native.Nat.{ℕ, ◌+◌, ◌-◌, ◌≤◌, ◌<◌}
use native.Mathlib.Omega.{arith}
use borrow.Author.Tests.{le-leb, lt-leb}
use lib.ListN.{length, take, drop, replicate, length-append, length-drop, length-replicate, replicate-append-replicate, drop_of_length-le}
use lib.Seq.{take_at, take_all, length-take-le, take-append_seam}
use Rattle.text.specs.Parts.{pieces}
use Rattle.text.specs.Options.{and_then, mapped, sized}
use Rattle.text.specs.Laws.{inside, under}
use Rattle.text.specs.OptionLaws.{IfSome, sized_is}
use Rattle.put.specs.Put.{Wrote}
use Rattle.ipv6.specs.Ipv6.{groups, side, halves, spread, ipv6}
use Rattle.put.specs.Texts.{bounded}
use Rattle.put.specs.declared.Bounded.{Bounded}
use Rattle.ipv6.specs.Places.{Gap, Padded}

-- ---- two sides

module _ {f b : List ℕ} {m n : ℕ} (h : Padded (record { len = m; bytes = f })) (k : Padded (record { len = n; bytes = b })) where
  front_long : length (take m f) ≡ m
  front_long = length-take-le m f (omega (arith, h.room, h.long))

  back_long : length (take n b) ≡ n
  back_long = length-take-le n b (omega (arith, k.room, k.long))

  pub spread_over : 14 < m + n → None ≡ spread (take m f) (take n b)
  spread_over l = rw (front_long, back_long, lt-leb (m + n) 14 l)

  pub spread_whole : m + n ≤ 14 → {y : List ℕ} {q : ℕ} → Wrote (take n b) (16 - n) f y q → Some y ≡ spread (take m f) (take n b)
  spread_whole l {y} {q} w =
      let j : 16 - length (take m f) ≡ 16 - (m + n) + n = omega (arith, front_long) in
      let z : f ≡ take m f ++ replicate (16 - (m + n)) 0 ++ replicate n 0 = h.is ∙ rw (j, ← replicate-append-replicate {A = ℕ} (16 - (m + n)) n 0) (sym (append_assoc (take m f) (replicate (16 - (m + n)) 0) (replicate n 0))) in
      let i : length (take m f ++ replicate (16 - (m + n)) 0) ≡ 16 - n = length-append (take m f) (replicate (16 - (m + n)) 0) ∙ omega (arith, front_long, length-replicate {A = ℕ} (16 - (m + n)) 0) in
      let front : take (16 - n) f ≡ take m f ++ replicate (16 - (m + n)) 0 = ap (take (16 - n)) z ∙ take_at (take m f ++ replicate (16 - (m + n)) 0) (replicate n 0) (16 - n) i in
      let last : drop (16 - n + length (take n b)) f ≡ [] = drop_of_length-le f {i = 16 - n + length (take n b)} (omega (arith, back_long, h.long, k.room)) in
      let all : y ≡ take m f ++ replicate (16 - (m + n)) 0 ++ take n b = w.text ∙ rw (front, last) (append-nil _) in
      rw (all, front_long, back_long, le-leb (m + n) 14 l)

-- ---- a side has at most sixteen bytes, with zeros behind them

side_most : (d : Bool) (s : List ℕ) → IfSome (λ l. length l ≤ 16) (side d s)
unfolding side
side_most d [] = omega arith
side_most d (x ∷ s) = go (sized 0 16 (groups d (pieces 58 (x ∷ s)))) (λ l e. (sized_is 0 16 (groups d (pieces 58 (x ∷ s))) e).0.most)
  where
    go : (o : Option (List ℕ)) → ((l : List ℕ) → o ≡ Some l → length l ≤ 16) → IfSome (λ (l : List ℕ). length l ≤ 16) o
    go None h = tt
    go (Some l) h = h l refl

-- what the reader of a side answers: none, or the bytes in front of its zeros
pub side_none : (o : Option (List ℕ)) → None ≡ mapped (bounded 16) o → o ≡ None
side_none None e = refl
side_none (Some l) e = absurd (none-some (bounded 16 l) e)

pub side_some : (o : Option (List ℕ)) {b : Bounded 16} → Some b ≡ mapped (bounded 16) o → o ≡ Some (take b.len b.bytes)
side_some None {b} e = absurd (none-some b (sym e))
side_some (Some l) {b} e = rw (same_Some b (bounded 16 l) e, take-append_seam l (replicate (16 - length l) 0))

pub side_padded : (d : Bool) (s : List ℕ) {b : Bounded 16} → Some b ≡ mapped (bounded 16) (side d s) → Padded b
side_padded d s {b} e = go (side d s) (side_most d s) e
  where
    go : (o : Option (List ℕ)) → IfSome (λ (l : List ℕ). length l ≤ 16) o → Some b ≡ mapped (bounded 16) o → Padded b
    go None h e = absurd (none-some b (sym e))
    go (Some l) h e =
        let laid : Padded (bounded 16 l) =
        record {
          room = h;
          long = length-append l (replicate (16 - length l) 0) ∙ omega (arith, length-replicate {A = ℕ} (16 - length l) 0);
          is = rw (take-append_seam l (replicate (16 - length l) 0));
        } in
        subst Padded (sym (same_Some b (bounded 16 l) e)) laid

-- ---- an address

module _ (s : List ℕ) (h : halves s ≡ None) where
  eight : ipv6 s ≡ sized 16 16 (side true s)
  unfolding ipv6
  eight = rw h

  pub whole_broken : None ≡ mapped (bounded 16) (side true s) → None ≡ ipv6 s
  whole_broken v = rw (eight, side_none (side true s) v)

  module _ {b : Bounded 16} (v : Some b ≡ mapped (bounded 16) (side true s)) where
    long : length (take b.len b.bytes) ≡ b.len
    long = let p = side_padded true s v in length-take-le b.len b.bytes (omega (arith, p.room, p.long))

    pub whole_eight : b.len ≡ 16 → Some b.bytes ≡ ipv6 s
    whole_eight n =
        let p = side_padded true s v in
        let all : take b.len b.bytes ≡ b.bytes = take_all b.len b.bytes (omega (arith, p.long)) in
        rw (eight, side_some (side true s) v, inside {x = length (take b.len b.bytes)} 16 16 (omega (arith, long)) (omega (arith, long)), all)

    pub whole_other : (b.len ≡ 16 → ⊥) → None ≡ ipv6 s
    whole_other n =
        let p = side_padded true s v in
        rw (eight, side_some (side true s) v, under {x = length (take b.len b.bytes)} 16 16 (omega (arith, long, p.room, n)))

module _ {s : List ℕ} {g : ℕ} (h : Gap s g) where
  split : ipv6 s ≡ and_then (side false (take g s)) (λ p. and_then (side true (drop (g + 2) s)) (spread p))
  unfolding ipv6
  split = rw h.is

  pub front_broken : None ≡ mapped (bounded 16) (side false (take g s)) → None ≡ ipv6 s
  front_broken e = rw (split, side_none (side false (take g s)) e)

  module _ {f : Bounded 16} (v : Some f ≡ mapped (bounded 16) (side false (take g s))) where
    rest : take (length s - (g + 2)) (drop (g + 2) s) ≡ drop (g + 2) s
    rest = take_all (length s - (g + 2)) (drop (g + 2) s) (simp length-drop (omega arith))

    pub back_broken : None ≡ mapped (bounded 16) (side true (take (length s - (g + 2)) (drop (g + 2) s))) → None ≡ ipv6 s
    back_broken w = rw (split, side_some (side false (take g s)) v, side_none (side true (drop (g + 2) s)) (rw rest at w))

    pub sides_spread : {b : Bounded 16} → Some b ≡ mapped (bounded 16) (side true (take (length s - (g + 2)) (drop (g + 2) s))) → spread (take f.len f.bytes) (take b.len b.bytes) ≡ ipv6 s
    sides_spread w = rw (split, side_some (side false (take g s)) v, side_some (side true (drop (g + 2) s)) (rw rest at w))
