-- Hex that is written reads back, and lower-case hex that is read is written again; lengths and bytes of both, and what is read.
use Rattle.std.specs.Prelude.{◌≡◌, refl, Bool, true, false, cond, ◌&&◌, ◌||◌, List, [], ◌∷◌, ℕ, suc, ◌+◌, ◌-◌, ◌*◌, ◌/◌, ◌%◌, ◌≤◌, ◌<◌, eqb, ltb, length, Option, None, Some}
use Rattle.std.proofs.Common.{ap, ap₂, sym, subst, ◌∙◌, arith, eqb-true, ltb-true, lt-ltb}
use Rattle.std.proofs.lemmas.Bool.{ltb-false}
use Rattle.std.proofs.lemmas.Option.{same_Some, none-some}
use Rattle.text.specs.Bytes.{between, is_byte, is_digit, is_hex_digit, is_lower_hex}
use Rattle.text.specs.Parts.{all}
use Rattle.text.specs.Options.{is_some, and_then, only, prepend}
use Rattle.text.specs.OptionLaws.{only_some, then_some, prepend_some}
use Rattle.text.specs.Laws.{and_true, all_cons, below, below_at, between_high}
use Rattle.hex_digits.specs.Hex.{nibble, digit, pair_byte, unhex, hex_digit, hex}

-- ---- one digit, by computation

writes_back : ℕ → Bool
writes_back n = eqb (nibble (hex_digit n)) n && is_lower_hex (hex_digit n)

each_nibble : below writes_back 16 ≡ true
unfolding writes_back nibble hex_digit
each_nibble = refl

pub nibble_digit : (n : ℕ) → n < 16 → nibble (hex_digit n) ≡ n
unfolding writes_back
nibble_digit n h = eqb-true _ n (and_true _ _ (below_at writes_back 16 each_nibble n h)).0

pub digit_lower : (n : ℕ) → n < 16 → is_lower_hex (hex_digit n) ≡ true
unfolding writes_back
digit_lower n h = (and_true (eqb (nibble (hex_digit n)) n) _ (below_at writes_back 16 each_nibble n h)).1

reads_back : ℕ → Bool
reads_back c = cond (is_lower_hex c) (eqb (hex_digit (nibble c)) c) true

each_lower : below reads_back 103 ≡ true
unfolding reads_back nibble hex_digit
each_lower = refl

lower_below : (c : ℕ) → is_lower_hex c ≡ true → c < 103
lower_below c h = go (is_digit c) refl
  where
    go : (t : Bool) → is_digit c ≡ t → c < 103
    go true e = omega (arith, between_high {x = c} 48 57 e)
    go false e = omega (arith, between_high {x = c} 97 102 (rw e at h))

pub digit_nibble : (c : ℕ) → is_lower_hex c ≡ true → hex_digit (nibble c) ≡ c
unfolding reads_back
digit_nibble c h = eqb-true _ c (rw h at (below_at reads_back 103 each_lower c (lower_below c h)))

-- ---- a digit's value is a nibble

pub digit_is : (c : ℕ) {v : ℕ} → digit c ≡ Some v → (nibble c ≡ v) × (v < 16)
digit_is c {v} e =
    let o = only_some (ltb (nibble c) 16) (Some (nibble c)) e in
    let k = same_Some (nibble c) v o.1 in
    (k, subst (λ (x : ℕ). x < 16) k (ltb-true (nibble c) 16 o.0))

pub digit_none : (c : ℕ) → digit c ≡ None → 16 ≤ nibble c
digit_none c e = go (ltb (nibble c) 16) refl e
  where
    go : (t : Bool) → ltb (nibble c) 16 ≡ t → only t (Some (nibble c)) ≡ None → 16 ≤ nibble c
    go true h k = absurd (none-some (nibble c) (sym k))
    go false h k = ltb-false (nibble c) 16 h

-- ---- writing, then reading

pub unhex_hex : (t : List ℕ) → all is_byte t ≡ true → unhex (hex t) ≡ Some t
unfolding unhex hex
unhex_hex [] h = refl
unhex_hex (b ∷ t) h =
    let k : b < 256 = ltb-true b 256 (all_cons is_byte b t h).0 in
    let high : b / 16 < 16 = omega arith in
    let low : b % 16 < 16 = omega arith in
    let e : b / 16 * 16 + b % 16 ≡ b = omega arith in
    rw (nibble_digit (b / 16) high, nibble_digit (b % 16) low, lt-ltb (b / 16) 16 high, lt-ltb (b % 16) 16 low, unhex_hex t (all_cons is_byte b t h).1, e)

pub hex_lower : (t : List ℕ) → all is_byte t ≡ true → all is_lower_hex (hex t) ≡ true
unfolding hex
hex_lower [] h = refl
hex_lower (b ∷ t) h =
    let k : b < 256 = ltb-true b 256 (all_cons is_byte b t h).0 in
    rw (digit_lower (b / 16) (omega arith), digit_lower (b % 16) (omega arith), hex_lower t (all_cons is_byte b t h).1)

pub hex_length : (t : List ℕ) → length (hex t) ≡ 2 * length t
unfolding hex
hex_length [] = refl
hex_length (b ∷ t) = omega (arith, hex_length t)

-- ---- reading: a pair of digits in front of s gives a byte in front of what s gives

record PairRead (a b : ℕ) (s t : List ℕ) : Type 0 where
  high : nibble a < 16
  low : nibble b < 16
  rest : List ℕ
  read : unhex s ≡ Some rest
  is : (nibble a * 16 + nibble b) ∷ rest ≡ t

pair_read : (a b : ℕ) (s t : List ℕ) → unhex (a ∷ b ∷ s) ≡ Some t → PairRead a b s t
unfolding unhex
pair_read a b s t e =
    let x = then_some (pair_byte a b) (λ x. prepend x (unhex s)) e in
    let o = only_some (ltb (nibble a) 16 && ltb (nibble b) 16) (Some (nibble a * 16 + nibble b)) x.1 in
    let d = and_true (ltb (nibble a) 16) (ltb (nibble b) 16) o.0 in
    let k = prepend_some x.0 (unhex s) x.2 in
    record { high = ltb-true _ 16 d.0; low = ltb-true _ 16 d.1; rest = k.0; read = k.1; is = ap (λ (y : ℕ). y ∷ k.0) (same_Some _ x.0 o.1) ∙ k.2 }

none_due : (t : List ℕ) → unhex [] ≡ Some t → [] ≡ t
unfolding unhex
none_due t e = same_Some [] t e

odd_unread : (a : ℕ) (t : List ℕ) → unhex (a ∷ []) ≡ Some t → ⊥
unfolding unhex
odd_unread a t e = none-some t e

pub unhex_length : (s : List ℕ) {t : List ℕ} → unhex s ≡ Some t → length s ≡ 2 * length t
unhex_length [] {t} e = rw (← none_due t e)
unhex_length (a ∷ []) {t} e = absurd (odd_unread a t e)
unhex_length (a ∷ b ∷ s) {t} e = let p = pair_read a b s t e in rw (← p.is) (omega (arith, unhex_length s p.read))

pub unhex_bytes : (s : List ℕ) {t : List ℕ} → unhex s ≡ Some t → all is_byte t ≡ true
unhex_bytes [] {t} e = rw (← none_due t e)
unhex_bytes (a ∷ []) {t} e = absurd (odd_unread a t e)
unhex_bytes (a ∷ b ∷ s) {t} e =
    let p = pair_read a b s t e in
    rw (← p.is, lt-ltb (nibble a * 16 + nibble b) 256 (omega (arith, p.high, p.low))) (unhex_bytes s p.read)

pub hex_unhex : (s : List ℕ) {t : List ℕ} → all is_lower_hex s ≡ true → unhex s ≡ Some t → hex t ≡ s
unfolding hex
hex_unhex [] {t} h e = rw (← none_due t e)
hex_unhex (a ∷ []) {t} h e = absurd (odd_unread a t e)
hex_unhex (a ∷ b ∷ s) {t} h e =
    let p = pair_read a b s t e in
    let k = all_cons is_lower_hex a (b ∷ s) h in
    let l = all_cons is_lower_hex b s k.1 in
    let high : (nibble a * 16 + nibble b) / 16 ≡ nibble a = omega (arith, p.high, p.low) in
    let low : (nibble a * 16 + nibble b) % 16 ≡ nibble b = omega (arith, p.high, p.low) in
    rw (← p.is, high, low, digit_nibble a k.0, digit_nibble b l.0, hex_unhex s l.1 p.read)

-- ---- what is pairs of hex digits: an even number of them

hex_nibble : (c : ℕ) → ltb (nibble c) 16 ≡ is_hex_digit c
unfolding nibble
hex_nibble c = go (is_digit c) refl (between 97 102 c) refl (between 65 70 c) refl
  where
    go : (d : Bool) → is_digit c ≡ d → (l : Bool) → between 97 102 c ≡ l → (u : Bool) → between 65 70 c ≡ u
        → ltb (cond d (c - 48) (cond l (c - 87) (cond u (c - 55) 16))) 16 ≡ (d || (l || u))
    go true e l f u g = lt-ltb (c - 48) 16 (omega (arith, between_high {x = c} 48 57 e))
    go false e true f u g = lt-ltb (c - 87) 16 (omega (arith, between_high {x = c} 97 102 f))
    go false e false f true g = lt-ltb (c - 55) 16 (omega (arith, between_high {x = c} 65 70 g))
    go false e false f false g = refl

some_pair : (t : Bool) (x : ℕ) (o : Option (List ℕ)) → is_some (and_then (only t (Some x)) (λ y. prepend y o)) ≡ (t && is_some o)
some_pair false x o = refl
some_pair true x None = refl
some_pair true x (Some l) = refl

before_even : (a b e r : Bool) → ((a && b) && (e && r)) ≡ (e && (a && (b && r)))
before_even true true e r = refl
before_even true false true r = refl
before_even true false false r = refl
before_even false b true r = refl
before_even false b false r = refl

pub unhex_pairs : (s : List ℕ) → is_some (unhex s) ≡ (eqb (length s % 2) 0 && all is_hex_digit s)
unfolding unhex
unhex_pairs [] = refl
unhex_pairs (a ∷ []) = refl
unhex_pairs (a ∷ b ∷ s) =
    let n : length s % 2 ≡ suc (suc (length s)) % 2 = omega arith in
    some_pair (ltb (nibble a) 16 && ltb (nibble b) 16) (nibble a * 16 + nibble b) (unhex s)
    ∙ ap₂ ◌&&◌ (ap₂ ◌&&◌ (hex_nibble a) (hex_nibble b)) (unhex_pairs s ∙ ap (λ (k : ℕ). eqb k 0 && all is_hex_digit s) n)
    ∙ before_even (is_hex_digit a) (is_hex_digit b) (eqb (suc (suc (length s)) % 2) 0) (all is_hex_digit s)
