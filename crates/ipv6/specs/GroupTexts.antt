-- The text of a group: its digits, how many they are, and that it reads back.
use Rattle.std.specs.Prelude.{◌≡◌, refl, Bool, true, false, cond, List, [], ◌∷◌, ◌++◌, ℕ, ◌+◌, ◌*◌, ◌/◌, ◌%◌, ◌≤◌, ◌<◌, ltb, length, Some}
use Rattle.std.proofs.Common.{ap, ◌∙◌}
use native.Mathlib.Omega.{arith}
use borrow.Author.Tests.{lt-ltb, le-ltb, ltb-true, ltb-false}
use Rattle.text.specs.Bytes.{between, other, is_lower_hex}
use Rattle.text.specs.Parts.{all}
use Rattle.text.specs.Options.{only}
use Rattle.text.specs.Laws.{is_other}
use Rattle.hex_digits.specs.Hex.{hex_digit}
use Rattle.hex_digits.specs.Laws.{nibble_digit, digit_lower}
use Rattle.ipv6.specs.Ipv6.{hex_value, group, group_digits}

-- ---- one group

module _ (v : ℕ) where
  pub group_text_one : v < 16 → group_digits v ≡ hex_digit v ∷ []
  unfolding group_digits
  group_text_one h = rw (lt-ltb v 16 h)

  pub group_text_two : 16 ≤ v → v < 256 → group_digits v ≡ hex_digit (v / 16) ∷ hex_digit (v % 16) ∷ []
  unfolding group_digits
  group_text_two h k = rw (le-ltb v 16 h, lt-ltb v 256 k)

  pub group_text_three : 256 ≤ v → v < 4096 → group_digits v ≡ hex_digit (v / 256) ∷ hex_digit (v / 16 % 16) ∷ hex_digit (v % 16) ∷ []
  unfolding group_digits
  group_text_three h k = let l : 16 ≤ v = omega arith in rw (le-ltb v 16 l, le-ltb v 256 h, lt-ltb v 4096 k)

  pub group_text_four : 4096 ≤ v → group_digits v ≡ hex_digit (v / 4096) ∷ hex_digit (v / 256 % 16) ∷ hex_digit (v / 16 % 16) ∷ hex_digit (v % 16) ∷ []
  unfolding group_digits
  group_text_four h =
      let l : 16 ≤ v = omega arith in
      let m : 256 ≤ v = omega arith in
      rw (le-ltb v 16 l, le-ltb v 256 m, le-ltb v 4096 h)

-- from 256 on: the high byte without leading zeros, and the low byte in two digits
pub group_text_high : (v : ℕ) → 256 ≤ v → v < 65536 → group_digits v ≡ group_digits (v / 256) ++ (hex_digit (v % 256 / 16) ∷ hex_digit (v % 256 % 16) ∷ [])
group_text_high v h k = go (ltb v 4096) refl
  where
    low : v % 256 % 16 ≡ v % 16
    low = omega arith

    high : v % 256 / 16 ≡ v / 16 % 16
    high = omega arith

    go : (t : Bool) → ltb v 4096 ≡ t → group_digits v ≡ group_digits (v / 256) ++ (hex_digit (v % 256 / 16) ∷ hex_digit (v % 256 % 16) ∷ [])
    go true e = let l : v < 4096 = ltb-true v 4096 e in rw (low, high, group_text_three v h l, group_text_one (v / 256) (omega arith))
    go false e =
        let l : 4096 ≤ v = ltb-false v 4096 e in
        let top : v / 256 / 16 ≡ v / 4096 = omega arith in
        rw (low, high, group_text_four v l, group_text_two (v / 256) (omega arith) (omega arith), top)

-- what holds of one to four digits, the first of several no zero, holds of a group
pub group_text_elim :
    (P : ℕ → List ℕ → Type 0)
    → ((a : ℕ) → a < 16 → P a (hex_digit a ∷ []))
    → ((a b : ℕ) → 0 < a → a < 16 → b < 16 → P (a * 16 + b) (hex_digit a ∷ hex_digit b ∷ []))
    → ((a b c : ℕ) → 0 < a → a < 16 → b < 16 → c < 16 → P ((a * 16 + b) * 16 + c) (hex_digit a ∷ hex_digit b ∷ hex_digit c ∷ []))
    → ((a b c d : ℕ) → 0 < a → a < 16 → b < 16 → c < 16 → d < 16 → P (((a * 16 + b) * 16 + c) * 16 + d) (hex_digit a ∷ hex_digit b ∷ hex_digit c ∷ hex_digit d ∷ []))
    → (v : ℕ) → v < 65536 → P v (group_digits v)
group_text_elim P one two three four v small = go (ltb v 16) refl (ltb v 256) refl (ltb v 4096) refl
  where
    go : (x : Bool) → ltb v 16 ≡ x → (y : Bool) → ltb v 256 ≡ y → (z : Bool) → ltb v 4096 ≡ z → P v (group_digits v)
    go true e y f z g = let h : v < 16 = ltb-true v 16 e in rw (group_text_one v h) (one v h)
    go false e true f z g =
        let h : 16 ≤ v = ltb-false v 16 e in
        let k : v < 256 = ltb-true v 256 f in
        let w : v / 16 * 16 + v % 16 ≡ v = omega arith in
        rw (group_text_two v h k) (rw w at (two (v / 16) (v % 16) (omega arith) (omega arith) (omega arith)))
    go false e false f true g =
        let h : 256 ≤ v = ltb-false v 256 f in
        let k : v < 4096 = ltb-true v 4096 g in
        let w : (v / 256 * 16 + v / 16 % 16) * 16 + v % 16 ≡ v = omega arith in
        rw (group_text_three v h k) (rw w at (three (v / 256) (v / 16 % 16) (v % 16) (omega arith) (omega arith) (omega arith) (omega arith)))
    go false e false f false g =
        let h : 4096 ≤ v = ltb-false v 4096 g in
        let w : ((v / 4096 * 16 + v / 256 % 16) * 16 + v / 16 % 16) * 16 + v % 16 ≡ v = omega arith in
        rw (group_text_four v h) (rw w at (four (v / 4096) (v / 256 % 16) (v / 16 % 16) (v % 16) (omega arith) (omega arith) (omega arith) (omega arith) (omega arith)))

-- ---- whatever the number: one to four digits, and no colon

text_elim :
    (P : List ℕ → Type 0)
    → ((a : ℕ) → P (hex_digit a ∷ []))
    → ((a b : ℕ) → P (hex_digit a ∷ hex_digit b ∷ []))
    → ((a b c : ℕ) → P (hex_digit a ∷ hex_digit b ∷ hex_digit c ∷ []))
    → ((a b c d : ℕ) → P (hex_digit a ∷ hex_digit b ∷ hex_digit c ∷ hex_digit d ∷ []))
    → (v : ℕ) → P (group_digits v)
unfolding group_digits
text_elim P one two three four v = go (ltb v 16) (ltb v 256) (ltb v 4096)
  where
    go : (x y z : Bool) → P (cond x (hex_digit v ∷ []) (cond y (hex_digit (v / 16) ∷ hex_digit (v % 16) ∷ []) (cond z (hex_digit (v / 256) ∷ hex_digit (v / 16 % 16) ∷ hex_digit (v % 16) ∷ []) (hex_digit (v / 4096) ∷ hex_digit (v / 256 % 16) ∷ hex_digit (v / 16 % 16) ∷ hex_digit (v % 16) ∷ []))))
    go true y z = one v
    go false true z = two (v / 16) (v % 16)
    go false false true = three (v / 256) (v / 16 % 16) (v % 16)
    go false false false = four (v / 4096) (v / 256 % 16) (v / 16 % 16) (v % 16)

pub group_text_length : (v : ℕ) → (1 ≤ length (group_digits v)) × (length (group_digits v) ≤ 4)
group_text_length = text_elim (λ t. (1 ≤ length t) × (length t ≤ 4)) (λ a. omega arith) (λ a b. omega arith) (λ a b c. omega arith) (λ a b c d. omega arith)

digit_apart : (n : ℕ) → other 58 (hex_digit n) ≡ true
unfolding hex_digit
digit_apart n = go (ltb n 10) refl
  where
    go : (t : Bool) → ltb n 10 ≡ t → other 58 (cond t (48 + n) (87 + n)) ≡ true
    go true e = is_other (48 + n) 58 (λ k. omega (arith, ltb-true n 10 e))
    go false e = is_other (87 + n) 58 (λ k. omega (arith, ltb-false n 10 e))

pub group_text_apart : (v : ℕ) → all (other 58) (group_digits v) ≡ true
group_text_apart =
    text_elim (λ t. all (other 58) t ≡ true)
    (λ a. rw (digit_apart a))
    (λ a b. rw (digit_apart a, digit_apart b))
    (λ a b c. rw (digit_apart a, digit_apart b, digit_apart c))
    (λ a b c d. rw (digit_apart a, digit_apart b, digit_apart c, digit_apart d))

-- ---- a number below 65536 reads back, and its digits are lower-case

value_next : (v n : ℕ) (s : List ℕ) → n < 16 → hex_value v (hex_digit n ∷ s) ≡ hex_value (v * 16 + n) s
unfolding hex_value
value_next v n s h = rw (nibble_digit n h, lt-ltb n 16 h)

value_first : (n : ℕ) (s : List ℕ) → n < 16 → hex_value 0 (hex_digit n ∷ s) ≡ hex_value n s
value_first n s h = let e : 0 * 16 + n ≡ n = omega arith in value_next 0 n s h ∙ ap (λ (m : ℕ). hex_value m s) e

value_none : (v : ℕ) → hex_value v [] ≡ Some v
unfolding hex_value
value_none v = refl

pub group_text_lem : (v : ℕ) → v < 65536 → group (group_digits v) ≡ Some v
unfolding group
group_text_lem =
    group_text_elim (λ v t. only (between 1 4 (length t)) (hex_value 0 t) ≡ Some v)
    (λ a h. value_first a [] h ∙ value_none _)
    (λ a b z h k. value_first a _ h ∙ value_next _ b [] k ∙ value_none _)
    (λ a b c z h k l. value_first a _ h ∙ value_next _ b _ k ∙ value_next _ c [] l ∙ value_none _)
    (λ a b c d z h k l m. value_first a _ h ∙ value_next _ b _ k ∙ value_next _ c _ l ∙ value_next _ d [] m ∙ value_none _)

pub group_text_hex : (v : ℕ) → v < 65536 → all is_lower_hex (group_digits v) ≡ true
group_text_hex =
    group_text_elim (λ v t. all is_lower_hex t ≡ true)
    (λ a h. rw (digit_lower a h))
    (λ a b z h k. rw (digit_lower a h, digit_lower b k))
    (λ a b c z h k l. rw (digit_lower a h, digit_lower b k, digit_lower c l))
    (λ a b c d z h k l m. rw (digit_lower a h, digit_lower b k, digit_lower c l, digit_lower d m))
