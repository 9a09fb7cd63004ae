-- What the reader of a side keeps, and each of its returns; a side that ends in a dotted piece.
use mathlib.Core.Path.{◌≡◌, refl, ap, sym, ◌∙◌}
use mathlib.Core.Bool.{Bool, true, false, not, ◌&&◌}
use mathlib.Core.List.{List, [], ◌∷◌, ◌++◌, append_assoc, append-nil}
use Rattle.std.specs.Prelude.{Option, None, Some}
use Prim.Native.Nat.{ℕ, ◌+◌, ◌-◌, ◌/◌, ◌%◌, ◌≤◌, ◌<◌}
use native.Mathlib.Omega.{arith}
use borrow.Author.Tests.{not-true}
use lib.ListN.{length, take, drop, set, replicate, length-append, length-replicate, replicate-append-replicate}
use lib.Seq.{take_at, drop_at, length-take-le}
use Rattle.text.specs.Parts.{part, pieces, padded}
use Rattle.text.specs.Options.{and_then, mapped, or_else, only, sized, glue}
use Rattle.text.specs.Laws.{inside, over, pieces_some}
use Rattle.text.specs.OptionLaws.{IfSome, glue_glue, glue_nil}
use Rattle.text.proofs.ScanLaws.{pieces_at, pieces_end}
use Rattle.put.specs.Put.{Wrote}
use Rattle.put.specs.Laws.{wrote_two}
use Rattle.put.specs.Texts.{bounded}
use Rattle.put.specs.declared.Bounded.{Bounded}
use Rattle.addresses.specs.Addresses.{address}
use Rattle.addresses.specs.Laws.{address_bytes_lem, address_length_lem}
use Rattle.ipv6.specs.Ipv6.{group, group_bytes, is_last, groups, side}
use Rattle.ipv6.specs.Places.{GroupAt, Padded}

-- ---- bytes with zeros behind them, and more bytes

sized_most : (t : List ℕ) → length t ≤ 16 → sized 0 16 (Some t) ≡ Some t
sized_most t h = rw (inside {x = length t} 0 16 (omega arith) h)

module _ {x : List ℕ} {n : ℕ} (h : Padded (record { len = n; bytes = x })) {b y : List ℕ} {q : ℕ} (w : Wrote b n x y q) where
  grown_length : length (take n x ++ b) ≡ q
  grown_length = length-append (take n x) b ∙ omega (arith, length-take-le n x (omega (arith, h.room, h.long)), w.next)

  behind_grown : drop (n + length b) x ≡ replicate (16 - q) 0
  behind_grown =
      let t : length (take n x) ≡ n = length-take-le n x (omega (arith, h.room, h.long)) in
      let k : 16 - length (take n x) ≡ length b + (16 - q) = omega (arith, w.next, w.room, h.long) in
      let z : x ≡ take n x ++ (replicate (length b) 0 ++ replicate (16 - q) 0) = h.is ∙ rw (k, replicate-append-replicate {A = ℕ} (length b) (16 - q) 0) in
      let l : length (take n x ++ replicate (length b) 0) ≡ n + length b = length-append (take n x) (replicate (length b) 0) ∙ rw (t, length-replicate {A = ℕ} (length b) 0) in
      ap (drop (n + length b)) (z ∙ sym (append_assoc (take n x) (replicate (length b) 0) (replicate (16 - q) 0)))
      ∙ drop_at (take n x ++ replicate (length b) 0) (replicate (16 - q) 0) (n + length b) l

  grown : y ≡ padded 16 (take n x ++ b)
  grown = w.text ∙ rw (behind_grown, grown_length)

  grown_front : take q y ≡ take n x ++ b
  grown_front = ap (take q) grown ∙ take_at (take n x ++ b) _ q grown_length

  padded_grown : Padded (record { len = q; bytes = y })
  padded_grown = record { room = omega (arith, w.room, h.long); long = w.long ∙ h.long; is = rw grown_front grown }

  -- a side that ends here
  side_whole : {t : Option (List ℕ)} → t ≡ sized 0 16 (Some (take n x ++ b)) → Some (record { len = q; bytes = y }) ≡ mapped (bounded 16) t
  side_whole e = sym (rw (e, sized_most (take n x ++ b) (omega (arith, grown_length, w.room, h.long)), ← grown, grown_length))

-- ---- a dotted end

pub four_long : (s : List ℕ) {b : List ℕ} → address s ≡ Some b → length b ≡ 4
four_long s {b} e = address_length_lem b (address_bytes_lem s e)

module _ (s : List ℕ) (dotted : Bool) {f : Bounded 16} (h : Padded f) where
  abbrev due : Option (List ℕ)
  due = sized 0 16 (glue (take f.len f.bytes) (only dotted (address s)))

  pub end_plain : not dotted ≡ true → None ≡ mapped (bounded 16) due
  end_plain e = rw (not-true dotted e)

  pub end_full : 12 < f.len → None ≡ mapped (bounded 16) due
  end_full k = go dotted (address s) refl
    where
      go : (t : Bool) (o : Option (List ℕ)) → address s ≡ o → None ≡ mapped (bounded 16) (sized 0 16 (glue (take f.len f.bytes) (only t o)))
      go false o e = refl
      go true None e = refl
      go true (Some b) e = rw (over {x = length (take f.len f.bytes ++ b)} 0 16 (omega (arith, length-append (take f.len f.bytes) b, length-take-le f.len f.bytes (omega (arith, h.room, h.long)), four_long s e)))

  pub end_broken : address s ≡ None → None ≡ mapped (bounded 16) due
  end_broken k = rw k (go dotted)
    where
      go : (t : Bool) → None ≡ mapped (bounded 16) (sized 0 16 (glue (take f.len f.bytes) (only t None)))
      go true = refl
      go false = refl

  pub end_whole : dotted ≡ true → {b : List ℕ} → address s ≡ Some b → {y : List ℕ} {q : ℕ} → Wrote b f.len f.bytes y q → Some (record { len = f.len + 4; bytes = y }) ≡ mapped (bounded 16) due
  end_whole d {b} k {y} {q} w =
      let e : f.len + 4 ≡ q = omega (arith, four_long s k, w.next) in
      rw e (side_whole h w {t = due} (rw (d, k)))

-- ---- a side

last_of_pieces : (d : ℕ) (s : List ℕ) → is_last (pieces d s) ≡ false
last_of_pieces d s = go (pieces d s) (pieces_some d s)
  where
    go : (ps : List (List ℕ)) → 1 ≤ length ps → is_last ps ≡ false
    go [] h = absurd (omega arith)
    go (p ∷ ps) h = refl

groups_least : (t : Bool) (p : List ℕ) (ps : List (List ℕ)) → IfSome (λ l. 2 ≤ length l) (groups t (p ∷ ps))
unfolding groups
groups_least t p ps = go (group p) (t && is_last ps) (address p) refl (groups t ps)
  where
    more : (b : List ℕ) → 2 ≤ length b → (o : Option (List ℕ)) → IfSome (λ (l : List ℕ). 2 ≤ length l) (glue b o)
    more b h None = tt
    more b h (Some u) = omega (arith, length-append b u)

    go : (g : Option ℕ) (d : Bool) (f : Option (List ℕ)) → address p ≡ f → (o : Option (List ℕ)) → IfSome (λ (l : List ℕ). 2 ≤ length l) (and_then (or_else (mapped group_bytes g) (only d f)) (λ b. glue b o))
    go (Some v) d f e o = more (group_bytes v) (omega arith) o
    go None false f e o = tt
    go None true None e o = tt
    go None true (Some b) e o = more b (omega (arith, four_long p e)) o

-- the pieces before index at are read, and stand in the first n bytes of x
pub record Siding (dotted : Bool) (s x : List ℕ) (at n : ℕ) : Type 0 where
  pub within : at ≤ length s
  pub laid : Padded (record { len = n; bytes = x })
  pub rest : side dotted s ≡ sized 0 16 (glue (take n x) (groups dotted (pieces 58 (drop at s))))

module _ (dotted : Bool) (s : List ℕ) where
  pub side_empty : length s ≡ 0 → Some (record { len = 0; bytes = replicate 16 0 }) ≡ mapped (bounded 16) (side dotted s)
  unfolding side
  side_empty h = go s h
    where
      go : (l : List ℕ) → length l ≡ 0 → Some (record { len = 0; bytes = replicate 16 0 }) ≡ mapped (bounded 16) (side dotted l)
      go [] h = refl
      go (c ∷ l) h = absurd (omega arith)

  pub siding_first : (length s ≡ 0 → ⊥) → Siding dotted s (replicate 16 0) 0 0
  unfolding side
  siding_first h = record { within = omega arith; laid = record { room = omega arith; long = refl; is = refl }; rest = go s h }
    where
      go : (l : List ℕ) → (length l ≡ 0 → ⊥) → side dotted l ≡ sized 0 16 (glue [] (groups dotted (pieces 58 l)))
      go [] h = absurd (h refl)
      go (c ∷ l) h = rw (glue_nil (groups dotted (pieces 58 (c ∷ l))))

module _ {dotted : Bool} {s x : List ℕ} {at n : ℕ} (h : Siding dotted s x at n) where
  pub siding_full : 15 ≤ n → None ≡ mapped (bounded 16) (side dotted s)
  siding_full k = rw h.rest (split (pieces 58 (drop at s)) (pieces_some 58 (drop at s)))
    where
      go : (o : Option (List ℕ)) → IfSome (λ (l : List ℕ). 2 ≤ length l) o → None ≡ mapped (bounded 16) (sized 0 16 (glue (take n x) o))
      go None e = refl
      go (Some u) e = rw (over {x = length (take n x ++ u)} 0 16 (omega (arith, length-append (take n x) u, length-take-le n x (omega (arith, h.laid.room, h.laid.long)))))

      split : (ps : List (List ℕ)) → 1 ≤ length ps → None ≡ mapped (bounded 16) (sized 0 16 (glue (take n x) (groups dotted ps)))
      split [] l = absurd (omega arith)
      split (p ∷ ps) l = go (groups dotted (p ∷ ps)) (groups_least dotted p ps)

  module _ {e : ℕ} {g : Option ℕ} (p : GroupAt s at (record { end = e; value = g })) where
    piece_is : {o : Option ℕ} → g ≡ o → group (part at e s) ≡ o
    piece_is q = sym p.is ∙ q

    module _ (b : g ≡ None) where
      pub siding_broken : (e ≡ length s → ⊥) → None ≡ mapped (bounded 16) (side dotted s)
      unfolding groups
      siding_broken k = rw (h.rest, pieces_at 58 p.stop k, last_of_pieces 58 (drop (e + 1) s), piece_is b) (go dotted)
        where
          go : (d : Bool) → None ≡ mapped (bounded 16) (sized 0 16 (glue (take n x) (and_then (only (d && false) (address (part at e s))) (λ c. glue c (groups dotted (pieces 58 (drop (e + 1) s)))))))
          go true = refl
          go false = refl

      pub siding_dotted : e ≡ length s → {q : Option (Bounded 16)} → q ≡ mapped (bounded 16) (sized 0 16 (glue (take n x) (only dotted (address (part at e s))))) → q ≡ mapped (bounded 16) (side dotted s)
      unfolding groups
      siding_dotted k w = w ∙ rw (h.rest, pieces_end 58 p.stop k, piece_is b) (go dotted (address (part at e s)))
        where
          go : (d : Bool) (o : Option (List ℕ)) → mapped (bounded 16) (sized 0 16 (glue (take n x) (only d o))) ≡ mapped (bounded 16) (sized 0 16 (glue (take n x) (and_then (only (d && true) o) (λ c. glue c (Some [])))))
          go false o = refl
          go true None = refl
          go true (Some c) = rw (append-nil c)

    module _ {v : ℕ} (b : g ≡ Some v) (room : n < 15) where
      abbrev stored : List ℕ
      stored = set (set x n (v / 256)) (n + 1) (v % 256)

      wrote : Wrote (group_bytes v) n x stored (n + 2)
      wrote = wrote_two x n (v / 256) (v % 256) (omega (arith, h.laid.long))

      pub siding_turn : (e ≡ length s → ⊥) → Siding dotted s stored (e + 1) (n + 2)
      unfolding groups
      siding_turn k =
          record {
            within = omega (arith, p.stop.within, k);
            laid = padded_grown h.laid wrote;
            rest = h.rest ∙ rw (pieces_at 58 p.stop k, piece_is b, glue_glue (take n x) (group_bytes v) (groups dotted (pieces 58 (drop (e + 1) s))), grown_front h.laid wrote);
          }

      pub siding_whole : e ≡ length s → Some (record { len = n + 2; bytes = stored }) ≡ mapped (bounded 16) (side dotted s)
      unfolding groups
      siding_whole k = side_whole h.laid wrote (h.rest ∙ rw (pieces_end 58 p.stop k, piece_is b))
