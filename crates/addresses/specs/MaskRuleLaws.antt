-- What `netmask` reads is the count of the ones in front of a mask's zeros.
use Rattle.std.specs.Prelude.{◌≡◌, ℕ, zero, suc, ◌+◌, ◌-◌, ◌*◌, ◌/◌, ◌%◌, ◌<◌, ◌≤◌, Bool, true, false, cond, List, [], ◌∷◌, ◌++◌, length, replicate, ◌==◌, refl, Some}
use Rattle.std.proofs.Common.{arith, ap, ◌∙◌, sym, eqb-true, length-append}
use Rattle.std.proofs.lemmas.Option.{same_Some, none-some}
use Rattle.std.proofs.lemmas.List.{length-replicate}
use Rattle.text.specs.Words.{same}
use Rattle.text.specs.OptionLaws.{then_some}
use Rattle.text.specs.Laws.{below, below_at, same_eq}
use Rattle.addresses.specs.Addresses.{address, is_address, as_number, mask, length_up_to, mask_length, mask_bytes, netmask}
use Rattle.addresses.specs.Laws.{address_elim, address_bytes_lem}
use Rattle.addresses.specs.Written.{mask_address, mask_length_lem}
use Rattle.addresses.specs.AddressRules.{bits_of, bits, MaskIs}
use Rattle.addresses.specs.AddressRuleLaws.{address_is, is_address_lem}

-- the number that bits write behind those of n
abbrev binary_from : ℕ → List ℕ → ℕ
binary_from n [] = n
binary_from n (b ∷ s) = binary_from (n * 2 + b) s

-- a byte is the number of its bits: a test computed at each
byte_right : ℕ → Bool
byte_right b = binary_from 0 (bits_of b) == b

each_byte : below byte_right 256 ≡ true
unfolding byte_right
each_byte = refl

byte_number : (b : ℕ) → b < 256 → binary_from 0 (bits_of b) ≡ b
unfolding byte_right
byte_number b h = eqb-true (binary_from 0 (bits_of b)) b (below_at byte_right 256 each_byte b h)

eight_bits : (n a b c d e f g h : ℕ) →
    binary_from n (a ∷ b ∷ c ∷ d ∷ e ∷ f ∷ g ∷ h ∷ []) ≡ n * 256 + binary_from 0 (a ∷ b ∷ c ∷ d ∷ e ∷ f ∷ g ∷ h ∷ [])
eight_bits n a b c d e f g h = omega arith

byte_bits : (n b : ℕ) (s : List ℕ) → b < 256 → binary_from n (bits_of b ++ s) ≡ binary_from (n * 256 + b) s
byte_bits n b s h =
    ap (λ (x : ℕ). binary_from x s) (eight_bits n _ _ _ _ _ _ _ _ ∙ ap (λ (x : ℕ). n * 256 + x) (byte_number b h))

-- four bytes are the number of their bits
bits_number : (a : List ℕ) → is_address a ≡ true → binary_from 0 (bits a) ≡ as_number a
bits_number = address_elim (λ a. binary_from 0 (bits a) ≡ as_number a) four
  where
    four : (x y z w : ℕ) → x < 256 → y < 256 → z < 256 → w < 256 →
        binary_from 0 (bits (x ∷ y ∷ z ∷ w ∷ [])) ≡ as_number (x ∷ y ∷ z ∷ w ∷ [])
    four x y z w hx hy hz hw =
        let e : (((0 * 256 + x) * 256 + y) * 256 + z) * 256 + w ≡ ((x * 256 + y) * 256 + z) * 256 + w = omega arith in
        byte_bits 0 x (bits (y ∷ z ∷ w ∷ [])) hx
        ∙ byte_bits (0 * 256 + x) y (bits (z ∷ w ∷ [])) hy
        ∙ byte_bits ((0 * 256 + x) * 256 + y) z (bits (w ∷ [])) hz
        ∙ byte_bits (((0 * 256 + x) * 256 + y) * 256 + z) w [] hw
        ∙ e

bits_length : (a : List ℕ) → is_address a ≡ true → length (bits a) ≡ 32
bits_length = address_elim (λ a. length (bits a) ≡ 32) (λ x y z w hx hy hz hw. refl)

-- ---- the mask of length n: its bits by a test computed at each length

abbrev ones : ℕ → List ℕ
ones n = replicate n 1 ++ replicate (32 - n) 0

bits_right : ℕ → Bool
bits_right n = same (bits (mask_bytes n)) (ones n)

each_bits : below bits_right 33 ≡ true
unfolding bits_right mask_bytes
each_bits = refl

mask_bits : (n : ℕ) → n ≤ 32 → bits (mask_bytes n) ≡ ones n
unfolding bits_right
mask_bits n h = same_eq (bits (mask_bytes n)) (ones n) (below_at bits_right 33 each_bits n (omega arith))

-- bytes that begin with n ones and go on with zeros have the number of the mask of length n
ones_number : (a : List ℕ) (n z : ℕ) → is_address a ≡ true → bits a ≡ replicate n 1 ++ replicate z 0 →
    (n ≤ 32) × (as_number a ≡ as_number (mask_bytes n))
ones_number a n z h e =
    let l : 32 ≡ n + z = sym (bits_length a h) ∙ ap length e ∙ length-append (replicate n 1) (replicate z 0) ∙ rw (length-replicate n, length-replicate z) in
    let k : n ≤ 32 = omega arith in
    let i : z ≡ 32 - n = omega arith in
    let j : bits a ≡ ones n = e ∙ ap (λ (x : ℕ). replicate n 1 ++ replicate x 0) i in
    (k, sym (bits_number a h) ∙ ap (binary_from 0) (j ∙ sym (mask_bits n k)) ∙ bits_number (mask_bytes n) (mask_address n k))

-- bytes of that number are the mask's
number_bytes : (m x y z w : ℕ) → x < 256 → y < 256 → z < 256 → w < 256 → ((x * 256 + y) * 256 + z) * 256 + w ≡ m →
    x ∷ y ∷ z ∷ w ∷ [] ≡ m / 16777216 ∷ m / 65536 % 256 ∷ m / 256 % 256 ∷ m % 256 ∷ []
number_bytes m x y z w hx hy hz hw e =
    let a : x ≡ m / 16777216 = omega arith in
    let b : y ≡ m / 65536 % 256 = omega arith in
    let c : z ≡ m / 256 % 256 = omega arith in
    let d : w ≡ m % 256 = omega arith in
    cc

number_mask : (n : ℕ) (a : List ℕ) → is_address a ≡ true → as_number a ≡ mask n → a ≡ mask_bytes n
unfolding mask_bytes
number_mask n =
    address_elim (λ a. as_number a ≡ mask n → a ≡ mask_bytes n) (λ x y z w hx hy hz hw e. number_bytes (mask n) x y z w hx hy hz hw e)

-- ---- the reading

length_mask : (k m : ℕ) {n : ℕ} → length_up_to k m ≡ Some n → (1 ≤ n) × (n ≤ k) × (m ≡ mask n)
unfolding length_up_to
length_mask zero m {n} e = absurd (none-some n e)
length_mask (suc k) m {n} e = go (m == mask (suc k)) refl (λ w. length_mask k m w) e
  where
    go : (b : Bool) → (m == mask (suc k)) ≡ b → (length_up_to k m ≡ Some n → (1 ≤ n) × (n ≤ k) × (m ≡ mask n)) →
        cond b (Some (suc k)) (length_up_to k m) ≡ Some n → (1 ≤ n) × (n ≤ suc k) × (m ≡ mask n)
    go true q f e =
        let x : suc k ≡ n = same_Some (suc k) n e in
        (omega arith, omega arith, eqb-true m (mask (suc k)) q ∙ ap mask x)
    go false q f e = let w = f e in let a = w.1 in (w.0, omega arith, w.2)

-- a mask's length is 1 to 32
pub netmask_good : (v : List ℕ) {n : ℕ} → netmask v ≡ Some n → (1 ≤ n) × (n ≤ 32)
unfolding netmask mask_length
netmask_good v e =
    let t = then_some (address v) (λ a. length_up_to 32 (as_number a)) e in
    let k = length_mask 32 (as_number t.0) t.2 in
    (k.0, k.1)

pub netmask_is : (v : List ℕ) {n : ℕ} → netmask v ≡ Some n → MaskIs v n
unfolding netmask mask_length
netmask_is v {n} e =
    let t = then_some (address v) (λ a. length_up_to 32 (as_number a)) e in
    let k = length_mask 32 (as_number t.0) t.2 in
    let i = number_mask n t.0 (address_bytes_lem v t.1) k.2 in
    record { bytes = t.0; address = address_is v t.1; zeros = 32 - n; ones_first = ap bits i ∙ mask_bits n k.1; least = k.0 }

pub is_netmask : (v : List ℕ) {n : ℕ} → MaskIs v n → netmask v ≡ Some n
unfolding netmask
is_netmask v {n} h =
    let a = is_address_lem v h.address in
    let k = ones_number h.bytes n h.zeros (address_bytes_lem v a) h.ones_first in
    rw (a, k.1) (mask_length_lem n h.least k.0)
