-- What `nibble` and `unhex` read is what the hex digits write.
use Rattle.std.specs.Prelude.{ℕ, ◌+◌, ◌-◌, ◌*◌, ◌<◌, ◌≡◌, refl, Bool, true, false, cond, ◌&&◌, List, [], ◌∷◌, ltb, Some}
use Rattle.std.proofs.Common.{arith, ap, subst, lt-ltb}
use Rattle.std.proofs.lemmas.Bool.{false≢true}
use Rattle.std.proofs.lemmas.Option.{same_Some, none-some}
use Rattle.text.specs.Bytes.{between}
use Rattle.text.specs.Options.{prepend}
use Rattle.text.specs.OptionLaws.{only_some, then_some, prepend_some}
use Rattle.text.specs.Laws.{and_true, inside, under, over, between_low, between_high}
use Rattle.hex_digits.specs.Hex.{nibble, pair_byte, unhex}
use Rattle.hex_digits.specs.HexRules.{HexDigit, decimal, lower, upper, HexPair, Hex, no_more, pair}

-- ---- one digit

pub digit_value : {c x : ℕ} → HexDigit c x → nibble c ≡ x
unfolding nibble
digit_value (decimal n h) = rw (inside {x = 48 + n} 48 57 (omega arith) (omega arith)) (omega arith)
digit_value (lower n h) =
    rw (over {x = 97 + n} 48 57 (omega arith), inside {x = 97 + n} 97 102 (omega arith) (omega arith)) (omega arith)
digit_value (upper n h) =
    rw (over {x = 65 + n} 48 57 (omega arith), under {x = 65 + n} 97 102 (omega arith), inside {x = 65 + n} 65 70 (omega arith) (omega arith)) (omega arith)

pub digit_small : {c x : ℕ} → HexDigit c x → x < 16
digit_small (decimal n h) = omega arith
digit_small (lower n h) = omega arith
digit_small (upper n h) = omega arith

pub value_digit : (c : ℕ) → ltb (nibble c) 16 ≡ true → HexDigit c (nibble c)
unfolding nibble
value_digit c = go (between 48 57 c) refl (between 97 102 c) refl (between 65 70 c) refl
  where
    go : (a : Bool) → between 48 57 c ≡ a → (b : Bool) → between 97 102 c ≡ b → (e : Bool) → between 65 70 c ≡ e →
        ltb (cond a (c - 48) (cond b (c - 87) (cond e (c - 55) 16))) 16 ≡ true →
        HexDigit c (cond a (c - 48) (cond b (c - 87) (cond e (c - 55) 16)))
    go true p b q e r h =
        let low = between_low {x = c} 48 57 p in
        let high = between_high {x = c} 48 57 p in
        let i : 48 + (c - 48) ≡ c = omega arith in
        subst (λ (x : ℕ). HexDigit x (c - 48)) i (decimal (c - 48) (omega arith))
    go false p true q e r h =
        let low = between_low {x = c} 97 102 q in
        let high = between_high {x = c} 97 102 q in
        let i : 97 + (c - 97) ≡ c = omega arith in
        let j : 10 + (c - 97) ≡ c - 87 = omega arith in
        rw (i, j) at (lower (c - 97) (omega arith))
    go false p false q true r h =
        let low = between_low {x = c} 65 70 r in
        let high = between_high {x = c} 65 70 r in
        let i : 65 + (c - 65) ≡ c = omega arith in
        let j : 10 + (c - 65) ≡ c - 55 = omega arith in
        rw (i, j) at (upper (c - 65) (omega arith))
    go false p false q false r h = absurd (false≢true h)

-- ---- a pair

pub pair_is : (a b : ℕ) {byte : ℕ} → pair_byte a b ≡ Some byte → HexPair a b byte
pair_is a b {byte} e =
    let o = only_some (ltb (nibble a) 16 && ltb (nibble b) 16) (Some (nibble a * 16 + nibble b)) e in
    let k = and_true (ltb (nibble a) 16) (ltb (nibble b) 16) o.0 in
    record { sixteens = nibble a; ones = nibble b; first = value_digit a k.0; second = value_digit b k.1; is = same_Some (nibble a * 16 + nibble b) byte o.1 }

pub is_pair : (a b : ℕ) {byte : ℕ} → HexPair a b byte → pair_byte a b ≡ Some byte
is_pair a b h =
    rw (digit_value h.first, digit_value h.second, lt-ltb h.sixteens 16 (digit_small h.first), lt-ltb h.ones 16 (digit_small h.second)) (ap Some h.is)

-- ---- pairs

pub unhex_writes : (s : List ℕ) {t : List ℕ} → unhex s ≡ Some t → Hex s t
unfolding unhex
unhex_writes [] {t} e = subst (Hex []) (same_Some [] t e) no_more
unhex_writes (a ∷ []) {t} e = absurd (none-some t e)
unhex_writes (a ∷ b ∷ s) {t} e =
    let x = then_some (pair_byte a b) (λ x. prepend x (unhex s)) e in
    let k = prepend_some x.0 (unhex s) x.2 in
    subst (Hex (a ∷ b ∷ s)) k.2 (pair (pair_is a b x.1) (unhex_writes s k.1))

pub writes_unhex : {s t : List ℕ} → Hex s t → unhex s ≡ Some t
unfolding unhex
writes_unhex no_more = refl
writes_unhex (pair {a} {b} h k) = rw (is_pair a b h, writes_unhex k)
