-- Numbers, by how many digits they have, and lists of addresses, written: what the loops keep, a turn, and their ends.
use Rattle.std.proofs.Common.{◌≡◌, ℕ, zero, suc, ◌+◌, ◌-◌, ◌*◌, ◌/◌, ◌%◌, ◌<◌, ◌≤◌, List, [], ◌∷◌, ◌++◌, length, get_or, take, drop, set, sym, refl, ap, ◌∙◌, append_assoc, append-nil, add-one, arith, length-append, length-drop, drop-cons, length-take-le, take-suc, take_all}
use Rattle.put.specs.Put.{Wrote}
use Rattle.put.specs.Laws.{then, wrote_none, wrote_byte, wrote_two, wrote_three}
use Rattle.addresses.specs.Addresses.{decimal, dotted, separator, with_separators, listed}
use Rattle.addresses.specs.Sizes.{decimal_one, decimal_two, decimal_three, decimal_length_one, decimal_length_two, decimal_length_three, dotted_short}
use Rattle.addresses.specs.declared.Separator.{Separator}

module _ (n : ℕ) (o : List ℕ) (a : ℕ) (room : a + length (decimal n) ≤ length o) where
  pub put_one : n < 10 → Wrote (decimal n) a o (set o a (48 + n)) (a + 1)
  put_one h = rw (decimal_one n h) (wrote_byte o a (48 + n) (omega (arith, decimal_length_one n h)))

  pub put_two : 10 ≤ n → n < 100 → Wrote (decimal n) a o (set (set o a (48 + n / 10)) (a + 1) (48 + n % 10)) (a + 2)
  put_two h g = rw (decimal_two n h g) (wrote_two o a (48 + n / 10) (48 + n % 10) (omega (arith, decimal_length_two n h g)))

  pub put_three : 100 ≤ n → Wrote (decimal n) a o (set (set (set o a (48 + n / 100)) (a + 1) (48 + n / 10 % 10)) (a + 2) (48 + n % 10)) (a + 3)
  put_three h = rw (decimal_three n h) (wrote_three o a (48 + n / 100) (48 + n / 10 % 10) (48 + n % 10) (omega (arith, decimal_length_three n h)))

-- ---- lists: one address more

-- the addresses of a list behind the first, up to n
abbrev pub rest : ℕ → List (List ℕ) → List (List ℕ)
rest n l = take (n - 1) (drop 1 l)

pub rest_length : (n : ℕ) (l : List (List ℕ)) → n ≤ length l → length (rest n l) ≡ n - 1
rest_length n l h = length-take-le (n - 1) (drop 1 l) (omega (arith, length-drop 1 l))

module _ (sep : Separator) where
  behind_append : (l m : List (List ℕ)) → with_separators sep (l ++ m) ≡ with_separators sep l ++ with_separators sep m
  behind_append [] m = refl
  behind_append (a ∷ l) m = ap (λ (x : List ℕ). (separator sep ∷ dotted a) ++ x) (behind_append l m) ∙ sym (append_assoc (separator sep ∷ dotted a) (with_separators sep l) (with_separators sep m))

  pub behind_one : (a : List ℕ) → with_separators sep (a ∷ []) ≡ separator sep ∷ dotted a
  behind_one a = append-nil (separator sep ∷ dotted a)

  pub put_behind : (a : List ℕ) {o y : List ℕ} {at r b : ℕ} → b ≡ separator sep → at < length o → Wrote (dotted a) (at + 1) (set o at b) y r → Wrote (with_separators sep (a ∷ [])) at o y r
  put_behind a {o} {at = at} e h w = rw (behind_one a) (then (wrote_byte o at (separator sep) h) (rw e at w))

  -- a list is its first address and those behind it
  listed_first : (n : ℕ) (l : List (List ℕ)) → 1 ≤ n → n ≤ length l → listed sep (take n l) ≡ dotted (get_or l 0 []) ++ with_separators sep (rest n l)
  listed_first zero l h k = absurd (omega arith)
  listed_first (suc n) [] h k = absurd (omega arith)
  listed_first (suc n) (a ∷ l) h k = let e : suc n - 1 ≡ n = omega arith in rw e

  module _ (l : List (List ℕ)) where
    -- those from i on are the one at i and the others; those before i + 1 are the others and the one at i
    pub behind_next : (i : ℕ) → i < length l → with_separators sep (drop i l) ≡ with_separators sep (get_or l i [] ∷ []) ++ with_separators sep (drop (i + 1) l)
    behind_next i h = rw (add-one i) (ap (with_separators sep) (drop-cons l i [] h) ∙ behind_append (get_or l i [] ∷ []) (drop (suc i) l))

    pub behind_last : (i : ℕ) → i < length l → with_separators sep (take (i + 1) l) ≡ with_separators sep (take i l) ++ with_separators sep (get_or l i [] ∷ [])
    behind_last i h = rw (add-one i, take-suc l i [] h) (behind_append (take i l) (get_or l i [] ∷ []))

-- ---- the loop of `put_addresses`: of the addresses l behind the first, i are written, and the others fit

pub record Laying (sep : Separator) (l : List (List ℕ)) (from : ℕ) (o x : List ℕ) (i p : ℕ) : Type 0 where
  pub wrote : Wrote (with_separators sep (take i l)) from o x p
  pub room : p + length (with_separators sep (drop i l)) ≤ length o

module _ (sep : Separator) (l : List (List ℕ)) (count : ℕ) (few : 1 ≤ count) (most : count ≤ length l) where
  listed_length : length (listed sep (take count l)) ≡ length (dotted (get_or l 0 [])) + length (with_separators sep (rest count l))
  listed_length = ap length (listed_first sep count l few most) ∙ length-append (dotted (get_or l 0 [])) (with_separators sep (rest count l))

  pub first_room : (at : ℕ) (o : List ℕ) → at + length (listed sep (take count l)) ≤ length o → at + length (dotted (get_or l 0 [])) ≤ length o
  first_room at o h = omega (arith, listed_length)

  pub laying_first : {at p : ℕ} {o x : List ℕ} → at + length (listed sep (take count l)) ≤ length o → Wrote (dotted (get_or l 0 [])) at o x p → Laying sep (rest count l) p x x 0 p
  laying_first {p = p} {x = x} h w =
      record { wrote = wrote_none x p (omega (arith, w.room, w.long)); room = omega (arith, listed_length, w.next, w.long) }

  pub laying_end : {at from p i : ℕ} {u o x : List ℕ} → Laying sep (rest count l) from o x i p → length (rest count l) ≤ i → Wrote (dotted (get_or l 0 [])) at u o from → Wrote (listed sep (take count l)) at u x p
  laying_end {i = i} h k w = rw (listed_first sep count l few most) (then w (rw (take_all i (rest count l) k) at h.wrote))

module _ {sep : Separator} {l : List (List ℕ)} {from : ℕ} {o x : List ℕ} {i p : ℕ} (h : Laying sep l from o x i p) (k : i < length l) where
  next_length : length (with_separators sep (drop i l)) ≡ length (with_separators sep (get_or l i [] ∷ [])) + length (with_separators sep (drop (i + 1) l))
  next_length = ap length (behind_next sep l i k) ∙ length-append (with_separators sep (get_or l i [] ∷ [])) (with_separators sep (drop (i + 1) l))

  pub laying_room : p + length (with_separators sep (get_or l i [] ∷ [])) ≤ length x
  laying_room = omega (arith, next_length, h.room, h.wrote.long)

  pub laying_turn : {y : List ℕ} {q : ℕ} → Wrote (with_separators sep (get_or l i [] ∷ [])) p x y q → Laying sep l from o y (i + 1) q
  laying_turn w = record { wrote = rw (behind_last sep l i k) (then h.wrote w); room = omega (arith, next_length, h.room, w.next) }

-- ---- the loop of `addresses_len`: of the addresses l behind the first, i are counted, whatever the separator

pub record Measuring (l : List (List ℕ)) (first i n : ℕ) : Type 0 where
  pub small : n ≤ 15 + 16 * i
  pub is : (sep : Separator) → n ≡ first + length (with_separators sep (take i l))

pub measuring_first : (l : List (List ℕ)) {first : ℕ} → first ≤ 15 → Measuring l first 0 first
measuring_first l k = record { small = omega arith; is = λ sep. omega arith }

module _ {l : List (List ℕ)} {first i n : ℕ} (h : Measuring l first i n) where
  pub measuring_turn : i < length l → {k : ℕ} → k ≡ length (dotted (get_or l i [])) → Measuring l first (i + 1) (n + (1 + k))
  measuring_turn t {k} e =
      record {
        small = omega (arith, h.small, dotted_short (get_or l i []));
        is = λ sep. omega (arith, h.is sep, longer sep, ap length (behind_one sep (get_or l i [])));
      }
    where
      longer : (sep : Separator) → length (with_separators sep (take (i + 1) l)) ≡ length (with_separators sep (take i l)) + length (with_separators sep (get_or l i [] ∷ []))
      longer sep = ap length (behind_last sep l i t) ∙ length-append (with_separators sep (take i l)) (with_separators sep (get_or l i [] ∷ []))

pub measuring_end : (sep : Separator) (l : List (List ℕ)) (count : ℕ) → 1 ≤ count → count ≤ length l → {first i n : ℕ} → first ≡ length (dotted (get_or l 0 [])) → Measuring (rest count l) first i n → length (rest count l) ≤ i → n ≡ length (listed sep (take count l))
measuring_end sep l count few most {first} {i} {n} e h k =
    let m : n ≡ first + length (with_separators sep (rest count l)) = rw (take_all i (rest count l) k) at (h.is sep) in
    omega (arith, m, listed_length sep l count few most)
