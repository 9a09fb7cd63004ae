-- The turns and the ends of the loops.
use mathlib.Core.Path.{◌≡◌, refl, ap, ap₂, sym, ◌∙◌, subst}
use mathlib.Core.Bool.{Bool, true, false, not, true≢false}
use mathlib.Core.List.{List, [], ◌∷◌, ◌++◌, append_assoc, append-nil}
use Rattle.std.specs.Prelude.{Option, None, Some}
use Rattle.std.specs.Option.{IsSome}
use Rattle.std.proofs.lemmas.Bool.{ltb-false}
use Prim.Native.Nat.{ℕ, suc, ◌+◌, ◌-◌, ◌*◌, ◌≤◌, ◌<◌}
use native.Mathlib.Numerals.{add-one}
use native.Mathlib.Omega.{arith}
use borrow.Author.Tests.{ltb-true, eqb-true, eq-eqb, ne_eqb}
use lib.Dec.{eqb, ltb}
use lib.ListN.{length, drop, set, get_or, drop_of_length-le, length-append, length-drop, length-set}
use lib.Seq.{drop-cons, length-take-le}
use Rattle.text.specs.Bytes.{other}
use Rattle.text.specs.Parts.{front, after, part}
use Rattle.text.specs.Scans.{Stop}
use Rattle.text.proofs.ScanLaws.{stop_low, stop_front, stop_after, stop_byte}
use Rattle.put.specs.Put.{Wrote}
use Rattle.put.specs.Laws.{then, wrote_byte}
use Rattle.text.specs.Options.{mapped, and_then, prepend, glue, or_empty, ReadsUpTo}
use Rattle.text.specs.OptionLaws.{glue_prepend, glue_cons, glue_glue, glue_nil}
use Rattle.put.proofs.Filling.{Filling, filling_first, filling_none, filling_end, filling_room, filling_byte}
use Rattle.escapes.specs.Escapes.{meant, unescape_from, unescape, shown, escape_from, escape}
use Rattle.escapes.specs.Letters.{by_letter, Letter}

-- ---- the length: t is read of the bytes before i, where a backslash stands or the string ends

-- what stands before a backslash is read as it stands
run_read : (v : List ℕ) → unescape_from false v ≡ glue (front (other 92) v) (unescape_from false (after (other 92) v))
unfolding unescape_from
run_read [] = refl
run_read (c ∷ v) = go (eqb c 92) refl (run_read v)
  where
    go : (b : Bool) → eqb c 92 ≡ b → unescape_from false v ≡ glue (front (other 92) v) (unescape_from false (after (other 92) v)) → unescape_from false (c ∷ v) ≡ glue (front (other 92) (c ∷ v)) (unescape_from false (after (other 92) (c ∷ v)))
    go true q k = rw (eqb-true c 92 q) (sym (glue_nil (unescape_from true v)))
    go false q k = rw (q, k) (glue_cons c (front (other 92) v) (unescape_from false (after (other 92) v)))

pub record Sizing (s : List ℕ) (i less : ℕ) : Type 0 where
  pub within : i ≤ length s
  pub text : List ℕ
  pub rest : glue text (unescape_from false (drop i s)) ≡ unescape s
  pub size : length text + less ≡ i
  pub ends : i < length s → get_or s i 0 ≡ 92

backslash : (c : ℕ) → other 92 c ≡ false → c ≡ 92
backslash c h = go (eqb c 92) refl h
  where
    go : (b : Bool) → eqb c 92 ≡ b → not b ≡ false → c ≡ 92
    go true q h = eqb-true c 92 q
    go false q h = absurd (true≢false h)

-- a text read up to i, and the run from there
module _ (s t : List ℕ) (i less : ℕ) (w : i ≤ length s) (r : glue t (unescape_from false (drop i s)) ≡ unescape s) (z : length t + less ≡ i) {e : ℕ} (h : Stop (other 92) s i e) where
  sizing_run : Sizing s e less
  sizing_run =
      record {
        within = h.within;
        text = t ++ part i e s;
        rest = sym (glue_glue t (part i e s) (unescape_from false (drop e s))) ∙ ap (glue t) (sym (run_read (drop i s) ∙ ap₂ (λ (a b : List ℕ). glue a (unescape_from false b)) (stop_front h) (stop_after h))) ∙ r;
        size = simp length-append (omega (arith, z, stop_low h, long));
        ends = λ l. backslash (get_or s e 0) (stop_byte h l);
      }
    where
      long : length (part i e s) ≡ e - i
      long = length-take-le (e - i) (drop i s) (simp length-drop (omega (arith, h.within)))

pub sizing_first : (s : List ℕ) {e : ℕ} → Stop (other 92) s 0 e → Sizing s e 0
sizing_first s h = sizing_run s [] 0 0 (omega arith) (glue_nil (unescape s)) (omega arith) h

module _ {s : List ℕ} {i less : ℕ} (h : Sizing s i less) where
  pub sizing_few : less ≤ i
  sizing_few = omega (arith, h.size)

  pub sizing_end : length s ≤ i → Some (length s - less) ≡ mapped length (unescape s)
  unfolding unescape_from
  sizing_end l =
      let r : Some h.text ≡ unescape s = rw (drop_of_length-le s l, append-nil) at h.rest in
      rw (sym r) (ap Some (omega (arith, h.size, h.within)))

  module _ (l : i < length s) where
    opened : glue h.text (unescape_from true (drop (i + 1) s)) ≡ unescape s
    unfolding unescape_from
    opened = rw (add-one i) (rw (drop-cons s i 0 l, h.ends l) at h.rest)

    pub sizing_short : false ≡ ltb (i + 1) (length s) → None ≡ mapped length (unescape s)
    unfolding unescape_from
    sizing_short k =
        let r : None ≡ unescape s = rw (drop_of_length-le s {i = i + 1} (ltb-false (i + 1) (length s) (sym k))) at opened in
        rw (sym r)

    -- c stands behind the backslash
    module _ (k : true ≡ ltb (i + 1) (length s)) {c : ℕ} (d : c ≡ get_or s (i + 1) c) where
      pub sizing_inside : i + 1 < length s
      sizing_inside = ltb-true (i + 1) (length s) (sym k)

      behind_it : drop (i + 1) s ≡ c ∷ drop (i + 2) s
      behind_it = let n : suc (i + 1) ≡ i + 2 = omega arith in rw (drop-cons s (i + 1) c sizing_inside, sym d, n)

      pub sizing_bad : None ≡ meant c → None ≡ mapped length (unescape s)
      unfolding unescape_from
      sizing_bad q =
          let r : None ≡ unescape s = rw (behind_it, sym q) at opened in
          rw (sym r)

      pub sizing_turn : {x : ℕ} → Some x ≡ meant c → {e : ℕ} → Stop (other 92) s (i + 2) e → Sizing s e (less + 1)
      unfolding unescape_from
      sizing_turn {x} q g =
          let u : glue h.text (prepend x (unescape_from false (drop (i + 2) s))) ≡ unescape s = rw (behind_it, sym q) at opened in
          sizing_run s (h.text ++ (x ∷ [])) (i + 2) (less + 1) (omega (arith, sizing_inside)) (sym (glue_prepend h.text x (unescape_from false (drop (i + 2) s))) ∙ u) (simp length-append (omega (arith, h.size))) g

-- ---- the copy

pub record Unescaping (s : List ℕ) (i : ℕ) (after : Bool) (n : ℕ) (o x : List ℕ) : Type 0 where
  pub within : i ≤ length s
  pub fill : Filling (unescape s) (unescape_from after (drop i s)) n o x

pub unescaping_first : (s o : List ℕ) → ReadsUpTo (length o) (unescape s) → Unescaping s 0 false 0 o o
unescaping_first s o f = record { within = omega arith; fill = filling_first (unescape s) o f }

module _ {s : List ℕ} {i : ℕ} {a : Bool} {n : ℕ} {o x : List ℕ} (h : Unescaping s i a n o x) where
  pub unescaping_end : length s ≤ i → Wrote (or_empty (unescape s)) 0 o x n
  unfolding unescape_from
  unescaping_end l = go a refl
    where
      go : (b : Bool) → a ≡ b → Wrote (or_empty (unescape s)) 0 o x n
      go true e = absurd (filling_none h.fill (rw (drop_of_length-le s l, e)))
      go false e = filling_end h.fill (rw (drop_of_length-le s l, e))

  module _ (l : i < length s) where
    module _ (e : a ≡ false) (k : get_or s i 0 ≡ 92 → ⊥) where
      byte : unescape_from a (drop i s) ≡ prepend (get_or s i 0) (unescape_from false (drop (i + 1) s))
      unfolding unescape_from
      byte = rw (add-one i, drop-cons s i 0 l, e, ne_eqb (get_or s i 0) 92 k)

      pub unescaping_room : n < length x
      unescaping_room = filling_room h.fill (get_or s i 0) (unescape_from false (drop (i + 1) s)) byte

      pub unescaping_byte : Unescaping s (i + 1) a (n + 1) o (set x n (get_or s i 0))
      unescaping_byte = rw e (record { within = omega arith; fill = filling_byte h.fill (get_or s i 0) (unescape_from false (drop (i + 1) s)) byte })

    pub unescaping_open : a ≡ false → get_or s i 0 ≡ 92 → Unescaping s (i + 1) true n o x
    unfolding unescape_from
    unescaping_open e k = record { within = omega arith; fill = rw (add-one i) (rw (drop-cons s i 0 l, e, eq-eqb (get_or s i 0) 92 k) at h.fill) }

    module _ (e : a ≡ true) where
      behind : unescape_from a (drop i s) ≡ and_then (meant (get_or s i 0)) (λ y. prepend y (unescape_from false (drop (i + 1) s)))
      unfolding unescape_from
      behind = rw (add-one i, drop-cons s i 0 l, e)

      pub unescaping_some : (r : Option ℕ) → r ≡ meant (get_or s i 0) → IsSome r
      unescaping_some None q = absurd (filling_none h.fill (behind ∙ rw (sym q)))
      unescaping_some (Some y) q = refl

      module _ {y : ℕ} (q : Some y ≡ meant (get_or s i 0)) where
        sound : unescape_from a (drop i s) ≡ prepend y (unescape_from false (drop (i + 1) s))
        sound = behind ∙ rw (sym q)

        pub unescaping_room_meant : n < length x
        unescaping_room_meant = filling_room h.fill y (unescape_from false (drop (i + 1) s)) sound

        pub unescaping_meant : Unescaping s (i + 1) false (n + 1) o (set x n y)
        unescaping_meant = record { within = omega arith; fill = filling_byte h.fill y (unescape_from false (drop (i + 1) s)) sound }

-- ---- escaping

writing_at : (s : List ℕ) (i : ℕ) → i < length s → escape_from (eqb i 0) (drop i s) ≡ shown (eqb i 0) (get_or s i 0) ++ escape_from (eqb (i + 1) 0) (drop (i + 1) s)
unfolding escape_from
writing_at s i l = let z : eqb (i + 1) 0 ≡ false = ne_eqb _ _ (λ (e : i + 1 ≡ 0). omega arith) in rw (z, add-one i, drop-cons s i 0 l)

writing_end : (s : List ℕ) (i : ℕ) → length s ≤ i → escape_from (eqb i 0) (drop i s) ≡ []
unfolding escape_from
writing_end s i l = rw (drop_of_length-le s l)

pub record EscapedSoFar (s : List ℕ) (i n : ℕ) : Type 0 where
  pub within : i ≤ length s
  pub few : n ≤ 2 * i
  pub small : length s ≤ 16384
  pub rest : n + length (escape_from (eqb i 0) (drop i s)) ≡ length (escape s)

module _ {s : List ℕ} {i n : ℕ} (h : EscapedSoFar s i n) where
  pub counting_end : length s ≤ i → n ≡ length (escape s)
  counting_end l = omega (arith, h.rest, ap length (writing_end s i l))

  module _ (l : i < length s) {m : Option ℕ} (q : Letter (eqb i 0) (get_or s i 0) m) where
    at_next : n + (length (by_letter m (get_or s i 0)) + length (escape_from (eqb (i + 1) 0) (drop (i + 1) s))) ≡ length (escape s)
    at_next = omega (arith, h.rest, ap length (writing_at s i l), ap length q.is, length-append (shown (eqb i 0) (get_or s i 0)) (escape_from (eqb (i + 1) 0) (drop (i + 1) s)))

    pub counting_one : m ≡ None → EscapedSoFar s (i + 1) (n + 1)
    counting_one z = record { within = omega arith; few = omega (arith, h.few); small = h.small; rest = omega (arith, rw z at at_next) }

    pub counting_two : {c : ℕ} → m ≡ Some c → EscapedSoFar s (i + 1) (n + 2)
    counting_two z = record { within = omega arith; few = omega (arith, h.few); small = h.small; rest = omega (arith, rw z at at_next) }

pub record Putting (s : List ℕ) (i a : ℕ) (o x : List ℕ) (p : ℕ) : Type 0 where
  pub within : i ≤ length s
  pub done : List ℕ
  pub wrote : Wrote done a o x p
  pub rest : done ++ escape_from (eqb i 0) (drop i s) ≡ escape s
  pub room : a + length (escape s) ≤ length o

module _ {s : List ℕ} {i a : ℕ} {o x : List ℕ} {p : ℕ} (h : Putting s i a o x p) where
  pub putting_end : length s ≤ i → Wrote (escape s) a o x p
  putting_end l = subst (λ (t : List ℕ). Wrote t a o x p) (sym (append-nil h.done) ∙ ap (λ (t : List ℕ). h.done ++ t) (sym (writing_end s i l)) ∙ h.rest) h.wrote

  module _ (l : i < length s) {m : Option ℕ} (q : Letter (eqb i 0) (get_or s i 0) m) where
    onward : h.done ++ by_letter m (get_or s i 0) ++ escape_from (eqb (i + 1) 0) (drop (i + 1) s) ≡ escape s
    onward = append_assoc h.done (by_letter m (get_or s i 0)) _ ∙ ap (λ (t : List ℕ). h.done ++ t) (rw q.is (sym (writing_at s i l))) ∙ h.rest

    pub putting_room : p + length (by_letter m (get_or s i 0)) ≤ length x
    putting_room = omega (arith, h.room, h.wrote.next, h.wrote.long, simp length-append at (ap length onward))

    pub one_room : m ≡ None → p + 1 ≤ length x
    one_room z = rw z at putting_room

    pub two_room : {c : ℕ} → m ≡ Some c → p + 2 ≤ length x
    two_room z = rw z at putting_room

    pub putting_one : m ≡ None → Putting s (i + 1) a o (set x p (get_or s i 0)) (p + 1)
    putting_one z =
        record {
          within = omega arith;
          done = h.done ++ (get_or s i 0 ∷ []);
          wrote = then h.wrote (wrote_byte x p (get_or s i 0) (omega (arith, one_room z)));
          rest = rw z at onward;
          room = h.room;
        }

    pub putting_two : {c : ℕ} → m ≡ Some c → Putting s (i + 1) a o (set (set x p 92) (p + 1) c) (p + 2)
    putting_two {c} z =
        let k : p + 2 ≤ length x = two_room z in
        let e : p + 1 + 1 ≡ p + 2 = omega arith in
        record {
          within = omega arith;
          done = h.done ++ (92 ∷ []) ++ (c ∷ []);
          wrote = rw e at (then (then h.wrote (wrote_byte x p 92 (omega arith))) (wrote_byte (set x p 92) (p + 1) c (rw (length-set x p 92) (omega arith))));
          rest = rw (append_assoc h.done (92 ∷ []) (c ∷ [])) (rw z at onward);
          room = h.room;
        }
