-- The groups of bytes, and the bytes of groups: each undoes the other.
use Rattle.std.specs.Prelude.{◌≡◌, refl, Bool, true, List, [], ◌∷◌, ◌++◌, ℕ, zero, suc, ◌+◌, ◌*◌, ◌/◌, ◌%◌, ◌<◌, length, get_or, replicate}
use Rattle.std.proofs.Common.{ap, arith}
use Rattle.text.specs.Bytes.{between}
use Rattle.text.specs.Parts.{all}
use Rattle.text.specs.Laws.{all_cons, inside, between_high}
use Rattle.ipv6.specs.Ipv6.{group_bytes, groups_of}

-- ---- the groups of bytes

pub groups_of_length : (a : List ℕ) (n : ℕ) → length a ≡ 2 * n → length (groups_of a) ≡ n
groups_of_length [] n e = omega arith
groups_of_length (h ∷ []) n e = absurd (omega arith)
groups_of_length (h ∷ l ∷ a) zero e = absurd (omega arith)
groups_of_length (h ∷ l ∷ a) (suc n) e = let k : length a ≡ 2 * n = omega arith in ap suc (groups_of_length a n k)

pub groups_of_at : (a : List ℕ) (i : ℕ) → 2 * i + 1 < length a →
    get_or (groups_of a) i 0 ≡ get_or a (2 * i) 0 * 256 + get_or a (2 * i + 1) 0
groups_of_at [] i h = absurd (omega arith)
groups_of_at (b ∷ []) i h = absurd (omega arith)
groups_of_at (b ∷ l ∷ a) zero h = refl
groups_of_at (b ∷ l ∷ a) (suc i) h =
    let k : 2 * i + 1 < length a = omega arith in
    let d : 2 * suc i ≡ suc (suc (2 * i)) = omega arith in
    let e : suc (suc (2 * i)) + 1 ≡ suc (suc (2 * i + 1)) = omega arith in
    rw (d, e) (groups_of_at a i k)

pub groups_of_append : (f u : List ℕ) (n : ℕ) → length f ≡ 2 * n → groups_of (f ++ u) ≡ groups_of f ++ groups_of u
groups_of_append [] u n e = refl
groups_of_append (x ∷ []) u n e = absurd (omega arith)
groups_of_append (x ∷ y ∷ f) u zero e = absurd (omega arith)
groups_of_append (x ∷ y ∷ f) u (suc n) e =
    let k : length f ≡ 2 * n = omega arith in
    ap (λ (l : List ℕ). (x * 256 + y) ∷ l) (groups_of_append f u n k)

pub groups_of_zeros : (n : ℕ) → groups_of (replicate (2 * n) 0) ≡ replicate n 0
groups_of_zeros zero = refl
groups_of_zeros (suc n) = let e : 2 * suc n ≡ suc (suc (2 * n)) = omega arith in rw (e, groups_of_zeros n)

-- a number of sixteen bits
abbrev pub is_group : ℕ → Bool
is_group = between 0 65535

pub groups_of_small : (a : List ℕ) → all (between 0 255) a ≡ true → all is_group (groups_of a) ≡ true
groups_of_small [] h = refl
groups_of_small (x ∷ []) h = refl
groups_of_small (x ∷ y ∷ a) h =
    let c = all_cons (between 0 255) x (y ∷ a) h in
    let d = all_cons (between 0 255) y a c.1 in
    rw (inside {x = x * 256 + y} 0 65535 (omega arith) (omega (arith, between_high {x = x} 0 255 c.0, between_high {x = y} 0 255 d.0))) (groups_of_small a d.1)

-- ---- the bytes of groups

abbrev pub bytes_of : List ℕ → List ℕ
bytes_of [] = []
bytes_of (g ∷ gs) = group_bytes g ++ bytes_of gs

pub bytes_of_length : (gs : List ℕ) → length (bytes_of gs) ≡ 2 * length gs
bytes_of_length [] = refl
bytes_of_length (g ∷ gs) = omega (arith, bytes_of_length gs)

pub bytes_of_append : (l m : List ℕ) → bytes_of (l ++ m) ≡ bytes_of l ++ bytes_of m
bytes_of_append [] m = refl
bytes_of_append (g ∷ l) m = rw (bytes_of_append l m)

pub bytes_of_zeros : (n : ℕ) → bytes_of (replicate n 0) ≡ replicate (2 * n) 0
bytes_of_zeros zero = refl
bytes_of_zeros (suc n) = let e : 2 * suc n ≡ suc (suc (2 * n)) = omega arith in rw (e, bytes_of_zeros n)

pub bytes_of_groups_of : (a : List ℕ) (n : ℕ) → length a ≡ 2 * n → all (between 0 255) a ≡ true → bytes_of (groups_of a) ≡ a
bytes_of_groups_of [] n e h = refl
bytes_of_groups_of (x ∷ []) n e h = absurd (omega arith)
bytes_of_groups_of (x ∷ y ∷ a) zero e h = absurd (omega arith)
bytes_of_groups_of (x ∷ y ∷ a) (suc n) e h =
    let c = all_cons (between 0 255) x (y ∷ a) h in
    let d = all_cons (between 0 255) y a c.1 in
    let i : y < 256 = omega (arith, between_high {x = y} 0 255 d.0) in
    let high : (x * 256 + y) / 256 ≡ x = omega arith in
    let low : (x * 256 + y) % 256 ≡ y = omega arith in
    rw (high, low, bytes_of_groups_of a n (omega arith) d.1)
