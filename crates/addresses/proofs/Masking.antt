-- A mask by its leading ones and its count of ones: the two are equal just where the number is a mask.
use Rattle.std.proofs.Common.{◌≡◌, ℕ, zero, suc, ◌+◌, ◌-◌, ◌*◌, ◌/◌, ◌%◌, ◌^◌, ◌<◌, ◌≤◌, Bool, true, false, cond, eqb, List, sym, refl, ap, ◌∙◌, pow-suc, arith, pow_pos, pow_mono, ne_eqb, eqb-true}
use Rattle.std.specs.Prelude.{None, Some}
use Rattle.std.specs.Int.{w32, to_be_bytes, from_be_bytes}
use lib.Arith.{lt-one}
use lib.Pow.{high_ones}
use lib.Count.{count_leading_zeros, ones, leading_unique, leading_length, ones_step, ones_cat, ones-ones}
use borrow.Author.Tests.{eqb-false}
use Rattle.text.specs.Laws.{below, below_at}
use Rattle.addresses.specs.Addresses.{number, address, prefix_length_of, as_number, mask, length_up_to, mask_length, netmask, mask_bytes}

abbrev pub leading_ones : ℕ → ℕ
leading_ones m = count_leading_zeros 32 (4294967295 - m)

ones_none : (k r : ℕ) → r < 2 ^ k → ones r ≡ 0 → r ≡ 0
ones_none zero r h e = lt-one h
ones_none (suc k) r h e =
    let half : r / 2 ≡ 0 = ones_none k (r / 2) (omega (arith, pow-suc 2 k)) (omega (arith, ones_step r)) in
    omega (arith, ones_step r)

-- a mask of k bits has k leading ones, and k ones
mask_leading : (m k : ℕ) → k ≤ 32 → m ≡ mask k → leading_ones m ≡ k
mask_leading m k h e =
    let p : 0 < 2 ^ (32 - k) = pow_pos (32 - k) in
    let q : 2 ^ (32 - k) ≤ 2 ^ 32 = pow_mono {i = 32 - k} {j = 32} (omega arith) in
    sym (leading_unique 32 (4294967295 - m) k (32 - k) (omega arith) (omega arith) (omega arith))

mask_ones : (m k : ℕ) → k ≤ 32 → m ≡ mask k → ones m ≡ k
mask_ones m k h e =
    let s : k + (32 - k) ≡ 32 = omega arith in
    let top : m ≡ (2 ^ k - 1) * 2 ^ (32 - k) + 0 = omega (arith, high_ones k (32 - k), ap (λ (x : ℕ). 2 ^ x) s) in
    ap ones top ∙ ones_cat (32 - k) (2 ^ k - 1) 0 (pow_pos (32 - k)) ∙ omega (arith, ones-ones k, ones-ones 0)

-- as many ones as leading ones: a mask
leading_mask : (m : ℕ) → m < 2 ^ 32 → leading_ones m ≡ ones m → (leading_ones m ≤ 32) × (m ≡ mask (leading_ones m))
leading_mask m h e =
    let s = leading_length 32 (4294967295 - m) (omega arith) in
    let n : ℕ = leading_ones m in
    let l : ℕ = s.0 in
    let b : ℕ = (2 ^ n - 1) * 2 ^ l in
    let base : b ≡ 2 ^ 32 - 2 ^ l = sym (high_ones n l) ∙ ap (λ (x : ℕ). 2 ^ x - 2 ^ l) s.1 in
    let q : 2 ^ l ≤ 2 ^ 32 = pow_mono {i = l} {j = 32} (omega (arith, s.1)) in
    let low : m - b < 2 ^ l = omega (arith, s.2, pow_pos l) in
    let whole : m ≡ b + (m - b) = omega (arith, s.2) in
    let None : m - b ≡ 0 = ones_none l (m - b) low (omega (arith, ap ones whole ∙ ones_cat l (2 ^ n - 1) (m - b) low, ones-ones n)) in
    let rest : l ≡ 32 - n = omega (arith, s.1) in
    (omega (arith, s.1), whole ∙ omega arith ∙ base ∙ ap (λ (x : ℕ). 2 ^ 32 - 2 ^ x) rest)

-- the definition finds the one k there is, and nothing where there is none
length_found : (K m k : ℕ) → K ≤ 32 → 1 ≤ k → k ≤ K → m ≡ mask k → length_up_to K m ≡ Some k
unfolding length_up_to
length_found zero m k w a h e = absurd (omega arith)
length_found (suc K) m k w a h e = go (λ g. length_found K m k (omega arith) a g e) (eqb m (mask (suc K))) refl
  where
    go : (k ≤ K → length_up_to K m ≡ Some k) → (t : Bool) → eqb m (mask (suc K)) ≡ t → cond t (Some (suc K)) (length_up_to K m) ≡ Some k
    go rest true f = ap Some (sym (mask_leading m (suc K) w (eqb-true _ _ f)) ∙ mask_leading m k (omega arith) e)
    go rest false f = let ne : (k ≡ suc K → ⊥) = λ g. eqb-false _ _ f (e ∙ ap mask g) in rest (omega arith)

length_none : (K m : ℕ) → ((k : ℕ) → 1 ≤ k → k ≤ K → m ≡ mask k → ⊥) → length_up_to K m ≡ None
unfolding length_up_to
length_none zero m f = refl
length_none (suc K) m f = rw (ne_eqb m (mask (suc K)) (f (suc K) (omega arith) (omega arith))) (length_none K m (λ k a b. f k a (omega arith)))

-- ---- the returns of `mask_length`

module _ (m : ℕ) where
  pub mask_no_ones : leading_ones m ≡ 0 → None ≡ mask_length m
  unfolding mask_length
  mask_no_ones e = sym (length_none 32 m (λ k a b w. omega (arith, mask_leading m k b w, e)))

  pub mask_apart : (leading_ones m ≡ ones m → ⊥) → None ≡ mask_length m
  unfolding mask_length
  mask_apart f = sym (length_none 32 m (λ k a b w. f (mask_leading m k b w ∙ sym (mask_ones m k b w))))

  module _ (l : m < 2 ^ 32) (e : leading_ones m ≡ ones m) where
    pub mask_small : leading_ones m ≤ 32
    mask_small = (leading_mask m l e).0

    pub mask_is : (leading_ones m ≡ 0 → ⊥) → Some (leading_ones m) ≡ mask_length m
    unfolding mask_length
    mask_is f = let g = leading_mask m l e in sym (length_found 32 m (leading_ones m) (omega arith) (omega (arith, f)) g.0 g.1)

-- ---- the returns of `read_prefix_length` and of `read_netmask`

module _ (m : ℕ) (s : List ℕ) where
  pub prefix_broken : number m s ≡ None → None ≡ prefix_length_of m s
  unfolding prefix_length_of
  prefix_broken e = rw e

  pub prefix_zero : {k : ℕ} → number m s ≡ Some k → k ≡ 0 → None ≡ prefix_length_of m s
  unfolding prefix_length_of
  prefix_zero e z = rw (e, z)

  pub prefix_some : {k : ℕ} → number m s ≡ Some k → (k ≡ 0 → ⊥) → Some k ≡ prefix_length_of m s
  unfolding prefix_length_of
  prefix_some {k = zero} e z = absurd (z refl)
  prefix_some {k = suc k} e z = rw e

-- a number by its bytes
number_bytes : (a : List ℕ) → from_be_bytes w32 a ≡ as_number a
number_bytes a = omega arith

module _ (s : List ℕ) where
  pub netmask_broken : address s ≡ None → None ≡ netmask s
  unfolding netmask
  netmask_broken e = rw e

  pub netmask_some : {a : List ℕ} {n : ℕ} → address s ≡ Some a → n ≡ from_be_bytes w32 a → mask_length n ≡ netmask s
  unfolding netmask
  netmask_some {a} e l = rw (e, l ∙ number_bytes a)

-- ---- the shift of `mask_bytes`: a test computed at each length

shift_right : ℕ → Bool
shift_right k = eqb (4294967296 / 2 ^ k) (2 ^ (32 - k))

each_shift : below shift_right 33 ≡ true
unfolding shift_right
each_shift = refl

module _ (k : ℕ) (h : k ≤ 32) where
  pub shift_is : 4294967296 / 2 ^ k ≡ 2 ^ (32 - k)
  unfolding shift_right
  shift_is = eqb-true _ _ (below_at shift_right 33 each_shift k (omega arith))

  pub shift_some : 1 ≤ 4294967296 / 2 ^ k
  shift_some = rw shift_is (pow_pos (32 - k))

  pub shift_most : 4294967296 / 2 ^ k ≤ 4294967296
  shift_most = rw shift_is (pow_mono {i = 32 - k} {j = 32} (omega arith))

  pub mask_written : to_be_bytes w32 (4294967296 - 4294967296 / 2 ^ k) ≡ mask_bytes k
  unfolding mask_bytes
  mask_written =
      let first : mask k / 16777216 % 256 ≡ mask k / 16777216 = omega (arith, pow_pos (32 - k)) in
      rw (shift_is, first)
