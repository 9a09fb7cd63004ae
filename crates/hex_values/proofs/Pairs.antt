-- Values in hex: what is known of their length, and the pairs of a MAC one by one.
use mathlib.Core.Path.{◌≡◌, refl, sym, ◌∙◌}
use mathlib.Core.Bool.{Bool, true, false}
use mathlib.Core.List.{List, [], ◌∷◌, ◌++◌, append-nil}
use Rattle.std.specs.Prelude.{Option, None, Some}
use Prim.Native.Nat.{ℕ, suc, ◌+◌, ◌-◌, ◌*◌, ◌/◌, ◌≤◌, ◌<◌}
use native.Mathlib.Numerals.{add-one}
use native.Mathlib.Omega.{arith}
use borrow.Author.Tests.{eq-eqb, ne_eqb}
use lib.Dec.{eqb}
use lib.ListN.{length, take, drop, set, get_or, replicate, drop_of_length-le, length-set}
use lib.Seq.{drop-cons, take-suc-set, take_all}
use Rattle.text.specs.Parts.{padded}
use Rattle.text.specs.Options.{is_some, mapped, and_then, only, sized, prepend, glue, or_empty, ReadsUpTo}
use Rattle.text.specs.Relations.{Sized}
use Rattle.text.specs.OptionLaws.{some_is, none_is, is_sized, unsized, glue_prepend, sized_then}
use Rattle.put.specs.Texts.{bounded}
use Rattle.hex_digits.specs.Hex.{pair_byte, unhex}
use Rattle.hex_digits.specs.Laws.{unhex_length}
use Rattle.hex_values.specs.HexValues.{colon_pairs, pairs, mac, pre_shared_key_of, ssid}

-- ---- hex of low to high digits

pub record HexGiven (low high : ℕ) (s : List ℕ) : Type 0 where
  pub size : Sized low high s
  pub text : List ℕ
  pub digits : unhex s ≡ Some text
  pub is : and_then (sized low high (Some s)) unhex ≡ Some text
  pub double : length s ≡ 2 * length text

hex_given : (low high : ℕ) (s : List ℕ) → is_some (and_then (sized low high (Some s)) unhex) ≡ true → HexGiven low high s
hex_given low high s e =
    let k = some_is (and_then (sized low high (Some s)) unhex) e in
    let h = sized_then low high unhex s k.1 in
    record { size = h.0; text = k.0; digits = h.1; is = k.1; double = unhex_length s h.1 }

-- a text of another length gives nothing; one of a right length what its digits give
size_other : (low high : ℕ) (s : List ℕ) → (Sized low high s → ⊥) → false ≡ is_some (and_then (sized low high (Some s)) unhex)
size_other low high s h = rw (unsized low high s h)

size_right : (low high : ℕ) (s : List ℕ) {x : Bool} → Sized low high s → x ≡ is_some (unhex s) → x ≡ is_some (and_then (sized low high (Some s)) unhex)
size_right low high s h e = rw (is_sized low high (Some s) h refl) e

module _ (s : List ℕ) where
  pub key_other : (length s ≡ 64 → ⊥) → false ≡ is_some (pre_shared_key_of s)
  unfolding pre_shared_key_of
  key_other h = size_other 64 64 s (λ z. h (omega (arith, z)))

  pub key_digits : length s ≡ 64 → {x : Bool} → x ≡ is_some (unhex s) → x ≡ is_some (pre_shared_key_of s)
  unfolding pre_shared_key_of
  key_digits h e = size_right 64 64 s (record { least = omega arith; most = omega arith }) e

  pub ssid_short : length s < 2 → false ≡ is_some (ssid s)
  unfolding ssid
  ssid_short h = size_other 2 64 s (λ z. omega (arith, z, h))

  pub ssid_long : 64 < length s → false ≡ is_some (ssid s)
  unfolding ssid
  ssid_long h = size_other 2 64 s (λ z. omega (arith, z, h))

  pub ssid_digits : 2 ≤ length s → length s ≤ 64 → {x : Bool} → x ≡ is_some (unhex s) → x ≡ is_some (ssid s)
  unfolding ssid
  ssid_digits h g e = size_right 2 64 s (record { least = h; most = g }) e

module _ (s : List ℕ) {x : Bool} where
  pub key_fits : x ≡ is_some (pre_shared_key_of s) → x ≡ true → ReadsUpTo 32 (unhex s)
  unfolding pre_shared_key_of
  key_fits p q = let g = hex_given 64 64 s (sym p ∙ q) in rw g.digits (omega (arith, g.double, g.size))

  pub key_good : x ≡ is_some (pre_shared_key_of s) → x ≡ true → {a : List ℕ} → a ≡ padded 32 (or_empty (unhex s)) → Some a ≡ pre_shared_key_of s
  unfolding pre_shared_key_of
  key_good p q w =
      let g = hex_given 64 64 s (sym p ∙ q) in
      let z : 32 - length g.text ≡ 0 = omega (arith, g.double, g.size) in
      rw (w, g.is, g.digits, z, append-nil g.text)

  pub key_bad : x ≡ is_some (pre_shared_key_of s) → x ≡ false → None ≡ pre_shared_key_of s
  key_bad p q = sym (none_is (pre_shared_key_of s) (sym p ∙ q))

  pub ssid_fits : x ≡ is_some (ssid s) → x ≡ true → ReadsUpTo 32 (unhex s)
  unfolding ssid
  ssid_fits p q = let g = hex_given 2 64 s (sym p ∙ q) in rw g.digits (omega (arith, g.double, g.size))

  pub ssid_good : x ≡ is_some (ssid s) → x ≡ true → {a : List ℕ} → a ≡ padded 32 (or_empty (unhex s)) → Some (record { len = length s / 2; bytes = a }) ≡ mapped (bounded 32) (ssid s)
  unfolding ssid
  ssid_good p q w =
      let g = hex_given 2 64 s (sym p ∙ q) in
      let n : length s / 2 ≡ length g.text = omega (arith, g.double) in
      rw (w, g.is, g.digits, n)

  pub ssid_bad : x ≡ is_some (ssid s) → x ≡ false → None ≡ mapped (bounded 32) (ssid s)
  ssid_bad p q = rw (none_is (ssid s) (sym p ∙ q))

pub ruleset hex_sizes = (key_other, key_digits, ssid_short, ssid_long, ssid_digits)

-- ---- a MAC: n pairs stand in x, and the rest of s starts at the colon behind them

pub record Paired (s : List ℕ) (n : ℕ) (x : List ℕ) : Type 0 where
  pub long : length s ≡ 17
  pub some : 1 ≤ n
  pub few : n ≤ 6
  pub room : length x ≡ 6
  pub rest : glue (take n x) (colon_pairs (drop (3 * n - 1) s)) ≡ mac s

pub mac_other : (s : List ℕ) → (length s ≡ 17 → ⊥) → None ≡ mac s
unfolding mac
mac_other s h = rw (unsized 17 17 s (λ z. h (omega (arith, z))))

module _ (s : List ℕ) (l : length s ≡ 17) where
  first : mac s ≡ and_then (pair_byte (get_or s 0 0) (get_or s 1 0)) (λ x. prepend x (colon_pairs (drop 2 s)))
  unfolding mac
  first = rw (is_sized 17 17 (Some s) (record { least = omega arith; most = omega arith }) refl) (go s (omega (arith, l)))
    where
      go : (s : List ℕ) → 2 ≤ length s → pairs s ≡ and_then (pair_byte (get_or s 0 0) (get_or s 1 0)) (λ x. prepend x (colon_pairs (drop 2 s)))
      go [] h = absurd (omega arith)
      go (a ∷ []) h = absurd (omega arith)
      go (a ∷ b ∷ s) h = refl

  pub mac_first : None ≡ pair_byte (get_or s 0 0) (get_or s 1 0) → None ≡ mac s
  mac_first e = rw (first, sym e)

  pub paired_first : {y : ℕ} → Some y ≡ pair_byte (get_or s 0 0) (get_or s 1 0) → Paired s 1 (set (replicate 6 0) 0 y)
  paired_first {y} e = record { long = l; some = omega arith; few = omega arith; room = refl; rest = sym (first ∙ rw (sym e) (go (colon_pairs (drop 2 s)))) }
    where
      go : (o : Option (List ℕ)) → prepend y o ≡ glue (y ∷ []) o
      go None = refl
      go (Some t) = refl

module _ {s : List ℕ} {n : ℕ} {x : List ℕ} (h : Paired s n x) where
  pub paired_end : 6 ≤ n → Some x ≡ mac s
  unfolding colon_pairs
  paired_end l =
      let e : Some (take n x ++ []) ≡ mac s = rw (drop_of_length-le s {i = 3 * n - 1} (omega (arith, h.long))) at h.rest in
      rw (append-nil (take n x), take_all n x (omega (arith, h.room))) at e

  module _ (l : n < 6) where
    behind : drop (3 * n - 1) s ≡ get_or s (3 * n - 1) 0 ∷ get_or s (3 * n) 0 ∷ get_or s (3 * n + 1) 0 ∷ drop (3 * (n + 1) - 1) s
    behind =
        let e : suc (3 * n - 1) ≡ 3 * n = omega (arith, h.some) in
        let f : suc (3 * n) ≡ 3 * n + 1 = omega arith in
        let g : suc (3 * n + 1) ≡ 3 * (n + 1) - 1 = omega arith in
        rw (drop-cons s (3 * n - 1) 0 (omega (arith, h.long)), e, drop-cons s (3 * n) 0 (omega (arith, h.long)), f, drop-cons s (3 * n + 1) 0 (omega (arith, h.long)), g)

    here : mac s ≡ glue (take n x) (only (eqb (get_or s (3 * n - 1) 0) 58) (and_then (pair_byte (get_or s (3 * n) 0) (get_or s (3 * n + 1) 0)) (λ x. prepend x (colon_pairs (drop (3 * (n + 1) - 1) s)))))
    unfolding colon_pairs
    here = sym h.rest ∙ rw behind

    pub paired_colon : (get_or s (3 * n - 1) 0 ≡ 58 → ⊥) → None ≡ mac s
    paired_colon k = sym (here ∙ rw (ne_eqb (get_or s (3 * n - 1) 0) 58 k))

    module _ (c : get_or s (3 * n - 1) 0 ≡ 58) where
      pub paired_broken : None ≡ pair_byte (get_or s (3 * n) 0) (get_or s (3 * n + 1) 0) → None ≡ mac s
      paired_broken e = sym (here ∙ rw (eq-eqb (get_or s (3 * n - 1) 0) 58 c, sym e))

      pub paired_turn : {y : ℕ} → Some y ≡ pair_byte (get_or s (3 * n) 0) (get_or s (3 * n + 1) 0) → Paired s (n + 1) (set x n y)
      paired_turn {y} e =
          let r : n < length x = omega (arith, h.room) in
          let t : take (n + 1) (set x n y) ≡ take n x ++ (y ∷ []) = rw (add-one n) (take-suc-set x n y r) in
          record {
            long = h.long;
            some = omega arith;
            few = omega arith;
            room = length-set x n y ∙ h.room;
            rest = rw t (sym (here ∙ rw (eq-eqb (get_or s (3 * n - 1) 0) 58 c, sym e) (glue_prepend (take n x) y (colon_pairs (drop (3 * (n + 1) - 1) s)))));
          }
