-- The values of the digits, range by range, and what the loops keep: a turn and the ends of each.
use mathlib.Core.Path.{◌≡◌, refl, ap, sym, ◌∙◌, subst}
use mathlib.Core.Bool.{Bool, true, false}
use mathlib.Core.List.{List, [], ◌∷◌, ◌++◌, append_assoc, append-nil}
use Rattle.std.specs.Prelude.{Option, None, Some, ◌&&◌, ltb, unwrap_or}
use Prim.Native.Nat.{ℕ, suc, ◌+◌, ◌-◌, ◌*◌, ◌/◌, ◌%◌, ◌≤◌, ◌<◌}
use native.Mathlib.Numerals.{add-one}
use native.Mathlib.Omega.{arith}
use borrow.Author.Tests.{lt-ltb, le-ltb, eqb-true, eqb-false}
use lib.Dec.{eqb}
use lib.ListN.{length, drop, set, get_or, drop_of_length-le, length-append}
use lib.Seq.{drop-cons}
use Rattle.text.specs.Options.{and_then, only, prepend, or_empty}
use Rattle.text.specs.Laws.{inside, under, over}
use Rattle.put.specs.Put.{Wrote}
use Rattle.put.specs.Laws.{then, wrote_two}
use Rattle.put.proofs.Filling.{Filling, filling_none, filling_end, filling_room, filling_byte}
use Rattle.hex_digits.specs.Hex.{nibble, digit, pair_byte, unhex, hex_digit, hex}
use Rattle.hex_digits.specs.Laws.{digit_is, digit_none}

-- ---- one digit, range by range

module _ (c : ℕ) where
  a_digit : {v : ℕ} → v ≡ nibble c → v < 16 → Some v ≡ digit c
  a_digit {v} e h = rw (← e, lt-ltb v 16 h)

  no_digit : 16 ≡ nibble c → None ≡ digit c
  no_digit e = rw (← e)

module _ {c : ℕ} where
  pub digit_below : c < 48 → None ≡ digit c
  unfolding nibble
  digit_below h = no_digit c (rw (under {x = c} 48 57 h, under {x = c} 97 102 (omega arith), under {x = c} 65 70 (omega arith)))

  pub digit_decimal : 48 ≤ c → c ≤ 57 → Some (c - 48) ≡ digit c
  unfolding nibble
  digit_decimal h g = a_digit c (rw (inside {x = c} 48 57 h g)) (omega arith)

  pub digit_gap : 57 < c → c < 65 → None ≡ digit c
  unfolding nibble
  digit_gap h g = no_digit c (rw (over {x = c} 48 57 h, under {x = c} 97 102 (omega arith), under {x = c} 65 70 g))

  pub digit_upper : 65 ≤ c → c ≤ 70 → Some (c - 65 + 10) ≡ digit c
  unfolding nibble
  digit_upper h g =
      let e : c - 65 + 10 ≡ c - 55 = omega arith in
      a_digit c (e ∙ rw (over {x = c} 48 57 (omega arith), under {x = c} 97 102 (omega arith), inside {x = c} 65 70 h g)) (omega arith)

  pub digit_between : 70 < c → c < 97 → None ≡ digit c
  unfolding nibble
  digit_between h g = no_digit c (rw (over {x = c} 48 57 (omega arith), under {x = c} 97 102 g, over {x = c} 65 70 h))

  pub digit_lower : 97 ≤ c → c ≤ 102 → Some (c - 97 + 10) ≡ digit c
  unfolding nibble
  digit_lower h g =
      let e : c - 97 + 10 ≡ c - 87 = omega arith in
      a_digit c (e ∙ rw (over {x = c} 48 57 (omega arith), inside {x = c} 97 102 h g)) (omega arith)

  pub digit_above : 102 < c → None ≡ digit c
  unfolding nibble
  digit_above h = no_digit c (rw (over {x = c} 48 57 (omega arith), over {x = c} 97 102 h, over {x = c} 65 70 (omega arith)))

pub ruleset digits = (digit_below, digit_decimal, digit_gap, digit_upper, digit_between, digit_lower, digit_above)

pub digit_low : {n : ℕ} → n < 10 → 48 + n ≡ hex_digit n
unfolding hex_digit
digit_low {n} h = rw (lt-ltb n 10 h)

pub digit_high : {n : ℕ} → 10 ≤ n → 97 + (n - 10) ≡ hex_digit n
unfolding hex_digit
digit_high {n} h = rw (le-ltb n 10 h) (omega arith)

-- ---- bytes from pairs: those of the first n pairs stand in x, and the rest is due

pub record Unhexing (s : List ℕ) (n : ℕ) (o x : List ℕ) : Type 0 where
  pub fill : Filling (unhex s) (unhex (drop (2 * n) s)) n o x

module _ (a b : ℕ) where
  no_first : digit a ≡ None → pair_byte a b ≡ None
  no_first e = rw (le-ltb (nibble a) 16 (digit_none a e))

  no_second : digit b ≡ None → pair_byte a b ≡ None
  no_second e = go (ltb (nibble a) 16)
    where
      go : (t : Bool) → only (t && ltb (nibble b) 16) (Some (nibble a * 16 + nibble b)) ≡ None
      go true = rw (le-ltb (nibble b) 16 (digit_none b e))
      go false = refl

  both_digits : {x y : ℕ} → digit a ≡ Some x → digit b ≡ Some y → Some (x * 16 + y) ≡ pair_byte a b
  both_digits {x} {y} e f =
      let d = digit_is a e in
      let k = digit_is b f in
      rw (d.0, k.0, lt-ltb x 16 d.1, lt-ltb y 16 k.1)

pair_at : List ℕ → ℕ → Option ℕ
pair_at s n = pair_byte (get_or s (2 * n) 0) (get_or s (2 * n + 1) 0)

unhex_at : (s : List ℕ) (n : ℕ) → 2 * n + 1 < length s → unhex (drop (2 * n) s) ≡ and_then (pair_at s n) (λ x. prepend x (unhex (drop (2 * (n + 1)) s)))
unfolding unhex pair_at
unhex_at s n h =
    let e : 2 * (n + 1) ≡ suc (suc (2 * n)) = omega arith in
    let l : suc (2 * n) < length s = omega arith in
    rw (e, add-one (2 * n), drop-cons s (2 * n) 0 (omega arith), drop-cons s (suc (2 * n)) 0 l)

unhex_odd : (s : List ℕ) (i : ℕ) → i < length s → length s ≤ i + 1 → unhex (drop i s) ≡ None
unfolding unhex
unhex_odd s i h g = let l : length s ≤ suc i = omega arith in rw (drop-cons s i 0 h, drop_of_length-le s l)

unhex_end : (s : List ℕ) (i : ℕ) → length s ≤ i → unhex (drop i s) ≡ Some []
unfolding unhex
unhex_end s i h = rw (drop_of_length-le s h)

module _ {s : List ℕ} {n : ℕ} {o x : List ℕ} (h : Unhexing s n o x) where
  pub unhexing_end : n ≡ length s / 2 → Wrote (or_empty (unhex s)) 0 o x n
  unhexing_end l = go (eqb (2 * n) (length s)) refl
    where
      go : (t : Bool) → eqb (2 * n) (length s) ≡ t → Wrote (or_empty (unhex s)) 0 o x n
      go true e = filling_end h.fill (unhex_end s (2 * n) (omega (arith, eqb-true (2 * n) (length s) e)))
      go false e = let k : (2 * n ≡ length s → ⊥) = eqb-false (2 * n) (length s) e in absurd (filling_none h.fill (unhex_odd s (2 * n) (omega (arith, k, l)) (omega (arith, l))))

  module _ (l : n < length s / 2) where
    here : unhex (drop (2 * n) s) ≡ and_then (pair_at s n) (λ y. prepend y (unhex (drop (2 * (n + 1)) s)))
    here = unhex_at s n (omega (arith, l))

    -- both are digits, since s is read whole: of each the value, or 0, is its nibble
    pub unhexing_byte : (u v : Option ℕ) → u ≡ digit (get_or s (2 * n) 0) → v ≡ digit (get_or s (2 * n + 1) 0)
        → Some (unwrap_or u 0 * 16 + unwrap_or v 0) ≡ pair_byte (get_or s (2 * n) 0) (get_or s (2 * n + 1) 0)
    unfolding pair_at
    unhexing_byte None v e f = absurd (filling_none h.fill (here ∙ rw (no_first _ _ (sym e))))
    unhexing_byte (Some x) None e f = absurd (filling_none h.fill (here ∙ rw (no_second _ _ (sym f))))
    unhexing_byte (Some x) (Some y) e f = both_digits _ _ (sym e) (sym f)

    module _ {y : ℕ} (p : Some y ≡ pair_byte (get_or s (2 * n) 0) (get_or s (2 * n + 1) 0)) where
      byte : unhex (drop (2 * n) s) ≡ prepend y (unhex (drop (2 * (n + 1)) s))
      unfolding pair_at
      byte = here ∙ rw (sym p)

      pub unhexing_room : n < length x
      unhexing_room = filling_room h.fill y (unhex (drop (2 * (n + 1)) s)) byte

      pub unhexing_turn : Unhexing s (n + 1) o (set x n y)
      unhexing_turn = record { fill = filling_byte h.fill y (unhex (drop (2 * (n + 1)) s)) byte }

-- ---- pairs from bytes

hex_at : (s : List ℕ) (i : ℕ) → i < length s → hex (drop i s) ≡ hex_digit (get_or s i 0 / 16) ∷ hex_digit (get_or s i 0 % 16) ∷ hex (drop (i + 1) s)
unfolding hex
hex_at s i h = rw (add-one i, drop-cons s i 0 h)

hex_end : (s : List ℕ) (i : ℕ) → length s ≤ i → hex (drop i s) ≡ []
unfolding hex
hex_end s i h = rw (drop_of_length-le s h)

pub record Hexing (s : List ℕ) (i a : ℕ) (o x : List ℕ) (p : ℕ) : Type 0 where
  pub within : i ≤ length s
  pub done : List ℕ
  pub wrote : Wrote done a o x p
  pub rest : done ++ hex (drop i s) ≡ hex s
  pub room : a + length (hex s) ≤ length o

module _ {s : List ℕ} {i a : ℕ} {o x : List ℕ} {p : ℕ} (h : Hexing s i a o x p) where
  pub hexing_end : length s ≤ i → Wrote (hex s) a o x p
  hexing_end l = subst (λ (t : List ℕ). Wrote t a o x p) (sym (append-nil h.done) ∙ ap (λ (t : List ℕ). h.done ++ t) (sym (hex_end s i l)) ∙ h.rest) h.wrote

  module _ (l : i < length s) where
    onward : h.done ++ (hex_digit (get_or s i 0 / 16) ∷ hex_digit (get_or s i 0 % 16) ∷ []) ++ hex (drop (i + 1) s) ≡ hex s
    onward = append_assoc h.done _ _ ∙ ap (λ (t : List ℕ). h.done ++ t) (sym (hex_at s i l)) ∙ h.rest

    pub hexing_room : p + 2 ≤ length x
    hexing_room = omega (arith, h.room, h.wrote.next, h.wrote.long, simp length-append at (ap length onward))

    pub hexing_turn : {y z : ℕ} → y ≡ hex_digit (get_or s i 0 / 16) → z ≡ hex_digit (get_or s i 0 % 16) → Hexing s (i + 1) a o (set (set x p y) (p + 1) z) (p + 2)
    hexing_turn e f =
        record {
          within = omega arith;
          done = h.done ++ (hex_digit (get_or s i 0 / 16) ∷ hex_digit (get_or s i 0 % 16) ∷ []);
          wrote = rw (e, f) (then h.wrote (wrote_two x p _ _ hexing_room));
          rest = onward;
          room = h.room;
        }
