-- What is read: a group of sixteen bits, and an address of sixteen bytes.
use Rattle.std.specs.Prelude.{◌≡◌, refl, true, List, [], ◌∷◌, ◌++◌, ℕ, zero, suc, ◌+◌, ◌*◌, ◌<◌, replicate, Some}
use Rattle.std.proofs.Common.{arith, length-append}
use Rattle.std.proofs.lemmas.List.{length-replicate}
use Rattle.text.specs.Bytes.{between}
use Rattle.text.specs.Parts.{all}
use Rattle.text.specs.Relations.{Sized, Pairwise}
use Rattle.text.specs.Laws.{all_append, inside}
use Rattle.hex_digits.specs.HexRules.{HexDigit}
use Rattle.hex_digits.specs.HexRuleLaws.{digit_small}
use Rattle.addresses.specs.Laws.{bytes_each, are_bytes, address_bytes_lem}
use Rattle.addresses.specs.AddressRuleLaws.{is_address_lem}
use Rattle.ipv6.specs.Ipv6.{ipv6, is_ipv6}
use Rattle.ipv6.specs.Ipv6Rules.{hex_from, GroupIs, GroupsAre, no_more, next, TailedAre, plain, dotted, Ipv6Is, full, compressed}
use Rattle.ipv6.specs.Ipv6RuleLaws.{ipv6_is}

-- what holds of one digit, two, three and four, and of the number that they write, holds of a group
pub group_elim :
    (P : List ℕ → ℕ → Type 0)
    → ((a x : ℕ) → HexDigit a x → P (a ∷ []) x)
    → ((a b x y : ℕ) → HexDigit a x → HexDigit b y → P (a ∷ b ∷ []) (x * 16 + y))
    → ((a b c x y z : ℕ) → HexDigit a x → HexDigit b y → HexDigit c z → P (a ∷ b ∷ c ∷ []) ((x * 16 + y) * 16 + z))
    → ((a b c d x y z w : ℕ) → HexDigit a x → HexDigit b y → HexDigit c z → HexDigit d w → P (a ∷ b ∷ c ∷ d ∷ []) (((x * 16 + y) * 16 + z) * 16 + w))
    → (p : List ℕ) {v : ℕ} → GroupIs p v → P p v
group_elim P one two three four p h = rw (← h.is) (go p h.values h.digits h.count)
  where
    first : (x : ℕ) → 0 * 16 + x ≡ x
    first x = omega arith

    go : (p values : List ℕ) → Pairwise HexDigit p values → Sized 1 4 p → P p (hex_from 0 values)
    go [] values h n = absurd (omega arith)
    go (a ∷ p) [] h n = absurd h
    go (a ∷ []) (x ∷ []) h n = rw (first x) (one a x h.0)
    go (a ∷ []) (x ∷ y ∷ values) h n = absurd h.1
    go (a ∷ b ∷ p) (x ∷ []) h n = absurd h.1
    go (a ∷ b ∷ []) (x ∷ y ∷ []) h n = rw (first x) (two a b x y h.0 h.1.0)
    go (a ∷ b ∷ []) (x ∷ y ∷ z ∷ values) h n = absurd h.1.1
    go (a ∷ b ∷ c ∷ p) (x ∷ y ∷ []) h n = absurd h.1.1
    go (a ∷ b ∷ c ∷ []) (x ∷ y ∷ z ∷ []) h n = rw (first x) (three a b c x y z h.0 h.1.0 h.1.1.0)
    go (a ∷ b ∷ c ∷ []) (x ∷ y ∷ z ∷ w ∷ values) h n = absurd h.1.1.1
    go (a ∷ b ∷ c ∷ d ∷ p) (x ∷ y ∷ z ∷ []) h n = absurd h.1.1.1
    go (a ∷ b ∷ c ∷ d ∷ []) (x ∷ y ∷ z ∷ w ∷ []) h n = rw (first x) (four a b c d x y z w h.0 h.1.0 h.1.1.0 h.1.1.1.0)
    go (a ∷ b ∷ c ∷ d ∷ []) (x ∷ y ∷ z ∷ w ∷ u ∷ values) h n = absurd h.1.1.1.1
    go (a ∷ b ∷ c ∷ d ∷ e ∷ p) (x ∷ y ∷ z ∷ w ∷ values) h n = absurd (omega arith)

pub group_small : (p : List ℕ) {v : ℕ} → GroupIs p v → v < 65536
group_small =
    group_elim (λ p v. v < 65536)
    (λ a x i. omega (arith, digit_small i))
    (λ a b x y i j. omega (arith, digit_small i, digit_small j))
    (λ a b c x y z i j k. omega (arith, digit_small i, digit_small j, digit_small k))
    (λ a b c d x y z w i j k l. omega (arith, digit_small i, digit_small j, digit_small k, digit_small l))

-- ---- bytes

groups_bytes : {ps : List (List ℕ)} {bytes : List ℕ} → GroupsAre ps bytes → all (between 0 255) bytes ≡ true
groups_bytes no_more = refl
groups_bytes (next {p} {high} {low} h l k) =
    rw (inside {x = high} 0 255 (omega arith) (omega (arith, group_small p h)), inside {x = low} 0 255 (omega arith) (omega arith)) (groups_bytes k)

tailed_bytes : {ps : List (List ℕ)} {bytes : List ℕ} → TailedAre ps bytes → all (between 0 255) bytes ≡ true
tailed_bytes (plain h) = groups_bytes h
tailed_bytes (dotted {p = p} {bytes = bytes} {tail = tail} h a) =
    all_append (between 0 255) bytes tail (groups_bytes h) (bytes_each 4 tail (address_bytes_lem p (is_address_lem p a)))

zero_bytes : (n : ℕ) → all (between 0 255) (replicate n 0) ≡ true
zero_bytes zero = refl
zero_bytes (suc n) = zero_bytes n

is_bytes_lem : {s a : List ℕ} → Ipv6Is s a → is_ipv6 a ≡ true
is_bytes_lem {a = a} (full h k l) = are_bytes 16 a (omega (arith, l.least, l.most)) (tailed_bytes k)
is_bytes_lem (compressed {front = front} {back = back} h f k b zero_groups low sum) =
    are_bytes 16 (front ++ replicate (2 * zero_groups) 0 ++ back)
    (omega (arith, length-append (front ++ replicate (2 * zero_groups) 0) back, length-append front (replicate (2 * zero_groups) 0), length-replicate {A = ℕ} (2 * zero_groups) 0))
    (all_append (between 0 255) (front ++ replicate (2 * zero_groups) 0) back (all_append (between 0 255) front (replicate (2 * zero_groups) 0) (groups_bytes f) (zero_bytes (2 * zero_groups))) (tailed_bytes b))

-- what is read is an address
pub ipv6_bytes : (s a : List ℕ) → ipv6 s ≡ Some a → is_ipv6 a ≡ true
ipv6_bytes s a e = is_bytes_lem (ipv6_is s e)
