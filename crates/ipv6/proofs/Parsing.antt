-- What the reader of a group keeps, and each of its returns.
use mathlib.Core.Path.{◌≡◌, refl, ap, ◌∙◌, sym}
use mathlib.Core.Bool.{Bool, true, false, cond, not}
use mathlib.Core.List.{List, [], ◌∷◌, ◌++◌}
use Rattle.std.specs.Prelude.{Option, None, Some}
use Rattle.std.proofs.lemmas.Option.{same_Some, none-some}
use Prim.Native.Nat.{ℕ, zero, suc, ◌+◌, ◌-◌, ◌*◌, ◌^◌, ◌≤◌, ◌<◌}
use native.Mathlib.Nat.{sub_self}
use native.Mathlib.Omega.{arith}
use borrow.Author.Tests.{lt-ltb, le-ltb, eqb-true, eqb-false}
use lib.Dec.{eqb, ltb}
use lib.ListN.{length, get_or}
use Rattle.std.specs.Bool.{then_some}
use Rattle.text.specs.Bytes.{between, other}
use Rattle.text.specs.Parts.{part}
use Rattle.text.specs.Options.{only}
use Rattle.text.specs.Laws.{inside, over, is_other, not_other, lead_more, part_none, part_next, part_add, part_long}
use Rattle.text.specs.Scans.{Stop, Scan}
use Rattle.text.proofs.ScanLaws.{scan_none, scan_turn, scan_stop, scan_end, scan_then}
use Rattle.hex_digits.specs.Hex.{nibble, digit}
use Rattle.hex_digits.specs.Laws.{digit_is, digit_none}
use Rattle.ipv6.specs.Ipv6.{hex_value, group}
use Rattle.ipv6.specs.Places.{GroupAt}

-- ---- digits in front of others

value_append : (u v : ℕ) (p q : List ℕ) → hex_value u p ≡ Some v → hex_value u (p ++ q) ≡ hex_value v q
unfolding hex_value
value_append u v [] q e = ap (λ (n : ℕ). hex_value n q) (same_Some u v e)
value_append u v (c ∷ p) q e = go (ltb (nibble c) 16) e (λ k. value_append (u * 16 + nibble c) v p q k)
  where
    go : (t : Bool) → cond t (hex_value (u * 16 + nibble c) p) None ≡ Some v → (hex_value (u * 16 + nibble c) p ≡ Some v → hex_value (u * 16 + nibble c) (p ++ q) ≡ hex_value v q) → cond t (hex_value (u * 16 + nibble c) (p ++ q)) None ≡ hex_value v q
    go true k f = f k
    go false k f = absurd (none-some v k)

value_digit : (v c : ℕ) (s : List ℕ) → nibble c < 16 → hex_value v (c ∷ s) ≡ hex_value (v * 16 + nibble c) s
unfolding hex_value
value_digit v c s h = rw (lt-ltb (nibble c) 16 h)

value_other : (v c : ℕ) (s : List ℕ) → 16 ≤ nibble c → hex_value v (c ∷ s) ≡ None
unfolding hex_value
value_other v c s h = rw (le-ltb (nibble c) 16 h)

value_none : (v : ℕ) → hex_value v [] ≡ Some v
unfolding hex_value
value_none v = refl

nibble_colon : nibble 58 ≡ 16
unfolding nibble
nibble_colon = refl

-- ---- a group

-- the digits from at up to i write v, and no colon stands among them
pub record Digits (s : List ℕ) (at i v : ℕ) : Type 0 where
  pub low : at ≤ i
  pub few : i ≤ at + 4
  pub small : v < 16 ^ (i - at)
  pub read : hex_value 0 (part at i s) ≡ Some v
  pub scan : Scan (other 58) s at i

pub digits_first : (s : List ℕ) (at : ℕ) → at ≤ length s → Digits s at at 0
digits_first s at h =
    let z : at - at ≡ 0 = sub_self at in
    record { low = omega arith; few = omega arith; small = rw z (omega arith); read = rw (part_none s at) (value_none 0); scan = scan_none h }

module _ {s : List ℕ} {at i v : ℕ} (h : Digits s at i v) where
  -- the group ends here
  ends : (i ≤ length s) → then_some (not (eqb i at)) v ≡ group (part at i s)
  unfolding group
  ends l = go (eqb i at) refl
    where
      long : length (part at i s) ≡ i - at
      long = part_long s at i h.low l

      go : (t : Bool) → eqb i at ≡ t → then_some (not t) v ≡ only (between 1 4 (length (part at i s))) (hex_value 0 (part at i s))
      go true e =
          let w : i ≡ at = eqb-true i at e in
          let p : part at i s ≡ [] = rw w (part_none s at) in
          rw p
      go false e =
          let w : (i ≡ at → ⊥) = eqb-false i at e in
          rw (h.read, inside {x = length (part at i s)} 1 4 (omega (arith, long, h.low, w)) (omega (arith, long, h.few)))

  pub digits_end : length s ≤ i → {g : Option ℕ} → g ≡ then_some (not (eqb (length s) at)) v → GroupAt s at (record { end = length s; value = g })
  digits_end l g =
      let e : i ≡ length s = omega (arith, h.scan.within) in
      record { stop = rw e at (scan_end h.scan l); is = g ∙ rw e at (ends h.scan.within) }

  module _ (l : i < length s) where
    pub digits_colon : get_or s i 0 ≡ 58 → {g : Option ℕ} → g ≡ then_some (not (eqb i at)) v → GroupAt s at (record { end = i; value = g })
    digits_colon e g = record { stop = scan_stop h.scan l (not_other (get_or s i 0) 58 e); is = g ∙ ends h.scan.within }

    past : (get_or s i 0 ≡ 58 → ⊥) → {e : ℕ} → Stop (other 58) s i e → i < e
    past c t = omega (arith, t.is, lead_more (other 58) s i l (is_other (get_or s i 0) 58 c))

    module _ {o : Option ℕ} (f : o ≡ digit (get_or s i 0)) where
      pub digits_broken : o ≡ None → (get_or s i 0 ≡ 58 → ⊥) → {e : ℕ} → Stop (other 58) s i e → GroupAt s at (record { end = e; value = None })
      unfolding group
      digits_broken m c {e} t =
          let b : 16 ≤ nibble (get_or s i 0) = digit_none (get_or s i 0) (sym f ∙ m) in
          let w : part at e s ≡ part at i s ++ (get_or s i 0 ∷ part (i + 1) e s) = part_add s at i e h.low (omega (arith, past c t)) ∙ rw (part_next s i e (past c t) l) in
          let z : hex_value 0 (part at e s) ≡ None = ap (hex_value 0) w ∙ value_append 0 v (part at i s) (get_or s i 0 ∷ part (i + 1) e s) h.read ∙ value_other v (get_or s i 0) (part (i + 1) e s) b in
          record { stop = scan_then h.scan t; is = rw z (go (between 1 4 (length (part at e s)))) }
        where
          go : (u : Bool) → None ≡ only {A = ℕ} u None
          go true = refl
          go false = refl

      module _ {d : ℕ} (m : o ≡ Some d) where
        n : d ≡ nibble (get_or s i 0)
        n = sym (digit_is (get_or s i 0) (sym f ∙ m)).0

        b : d < 16
        b = (digit_is (get_or s i 0) (sym f ∙ m)).1

        digit_apart : get_or s i 0 ≡ 58 → ⊥
        digit_apart c = omega (arith, b, n ∙ ap nibble c ∙ nibble_colon)

        pub digits_long : 4 ≤ i - at → {e : ℕ} → Stop (other 58) s i e → GroupAt s at (record { end = e; value = None })
        unfolding group
        digits_long k {e} t =
            let j : length (part at e s) ≡ e - at = part_long s at e (omega (arith, h.low, past digit_apart t)) t.within in
            record { stop = scan_then h.scan t; is = rw (over {x = length (part at e s)} 1 4 (omega (arith, j, past digit_apart t))) }

        module _ (k : i - at < 4) where
          pub digits_room : v < 4096
          digits_room = go (i - at) k h.small
            where
              go : (m : ℕ) → m < 4 → v < 16 ^ m → v < 4096
              go zero q e = omega arith
              go (suc zero) q e = omega arith
              go (suc (suc zero)) q e = omega arith
              go (suc (suc (suc zero))) q e = omega arith
              go (suc (suc (suc (suc m)))) q e = absurd (omega arith)

          pub digits_turn : Digits s at (i + 1) (v * 16 + d)
          digits_turn =
              let z : i + 1 - at ≡ suc (i - at) = omega (arith, h.low) in
              let w : part at (i + 1) s ≡ part at i s ++ (get_or s i 0 ∷ []) = part_add s at i (i + 1) h.low (omega arith) ∙ rw (part_next s i (i + 1) (omega arith) l, part_none s (i + 1)) in
              record {
                low = omega (arith, h.low);
                few = omega (arith, h.low);
                small = rw z (omega (arith, h.small, b));
                read = ap (hex_value 0) w ∙ value_append 0 v (part at i s) (get_or s i 0 ∷ []) h.read ∙ value_digit v (get_or s i 0) [] (rw n at b) ∙ rw n (value_none (v * 16 + nibble (get_or s i 0)));
                scan = scan_turn h.scan l (is_other (get_or s i 0) 58 digit_apart);
              }
