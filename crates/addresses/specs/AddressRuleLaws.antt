-- What `number`, `address`, `prefix_length_of` and `addresses` read is what the text writes.
use Rattle.std.specs.Prelude.{◌≡◌, ℕ, zero, suc, ◌+◌, ◌-◌, ◌*◌, ◌≤◌, Bool, true, false, cond, ◌&&◌, List, [], ◌∷◌, ◌==◌, ◌≢◌, nat_eq, nat_le, refl, Option, None, Some}
use Rattle.std.proofs.Common.{arith, ap, ap₂, ◌∙◌, subst, eqb-true, leb-true, le-leb}
use Rattle.std.proofs.lemmas.Option.{same_Some, none-some}
use Rattle.std.proofs.lemmas.Bool.{eqb-false}
use Rattle.text.specs.Bytes.{other, is_digit}
use Rattle.text.specs.Parts.{all, empty, pieces}
use Rattle.text.specs.PieceLaws.{pieces_are, pieces_only}
use Rattle.text.specs.Relations.{Each, Pairwise}
use Rattle.text.specs.Options.{and_then, only, sized, each}
use Rattle.text.specs.OptionLaws.{then_some, only_some, sized_is, is_sized, each_pairwise, pairwise_each}
use Rattle.text.specs.Laws.{all_cons, pieces_last}
use Rattle.addresses.specs.Addresses.{decimal_value, up_to, number, octet, address, positive, prefix_length_of, fields, addresses}
use Rattle.addresses.specs.AddressRules.{decimal_from, NumberIs, AddressIs, LengthIs, AddressesIs}
use Rattle.addresses.specs.SplitLaws.{fields_split, split_fields}
use Rattle.addresses.specs.declared.Separator.{Separator}

-- ---- numbers

value_is : (v : ℕ) (s : List ℕ) {n : ℕ} → decimal_value v s ≡ Some n → (all is_digit s ≡ true) × (decimal_from v s ≡ n)
unfolding decimal_value
value_is v [] {n} e = (refl, same_Some v n e)
value_is v (c ∷ s) {n} e = go (is_digit c) refl (λ k. value_is (v * 10 + (c - 48)) s k) e
  where
    Is : Bool → Type 0
    Is b = (b && all is_digit s ≡ true) × (decimal_from (v * 10 + (c - 48)) s ≡ n)

    go : (b : Bool) → is_digit c ≡ b → (decimal_value (v * 10 + (c - 48)) s ≡ Some n → Is true) →
        cond b (decimal_value (v * 10 + (c - 48)) s) None ≡ Some n → Is (is_digit c)
    go true q f e = rw q (f e)
    go false q f e = absurd (none-some n e)

is_value : (v : ℕ) (s : List ℕ) → all is_digit s ≡ true → decimal_value v s ≡ Some (decimal_from v s)
unfolding decimal_value
is_value v [] h = refl
is_value v (c ∷ s) h = rw (all_cons is_digit c s h).0 (is_value (v * 10 + (c - 48)) s (all_cons is_digit c s h).1)

zero_is : (m : ℕ) (s : List ℕ) {n : ℕ} → only (empty s) (Some 0) ≡ Some n → NumberIs m (48 ∷ s) n
zero_is m [] {n} e =
    let q : 0 ≡ n = same_Some 0 n e in
    record { written = λ k. let z : ◌≡◌ {A = ℕ} 0 1 = cc in omega arith; digits = refl; no_leading_zero = λ t k. cc; is = q; most = omega arith }
zero_is m (y ∷ s) {n} e = absurd (none-some n e)

pub number_is : (m : ℕ) (s : List ℕ) {n : ℕ} → number m s ≡ Some n → NumberIs m s n
unfolding number
number_is m [] {n} e = absurd (none-some n e)
number_is m (c ∷ s) {n} e = go (c == 48) refl e
  where
    other_digit : nat_eq c 48 ≡ false → (o : Option ℕ) → decimal_value 0 (c ∷ s) ≡ o → up_to m o ≡ Some n →
        NumberIs m (c ∷ s) n
    other_digit q None i e = absurd (none-some n e)
    other_digit q (Some v) i e =
        let k = value_is 0 (c ∷ s) i in
        let w = only_some (nat_le v m) (Some v) e in
        let x : v ≡ n = same_Some v n w.1 in
        let y : v ≤ m = leb-true v m w.0 in
        let d : (c ≢ 48) = eqb-false c 48 q in
        record { written = λ t. let z : ◌≡◌ {A = ℕ} 0 1 = cc in omega arith; digits = k.0; no_leading_zero = λ t j. absurd (d (cc)); is = k.1 ∙ x; most = omega arith }

    go : (b : Bool) → (c == 48) ≡ b → cond b (only (empty s) (Some 0)) (up_to m (decimal_value 0 (c ∷ s))) ≡ Some n →
        NumberIs m (c ∷ s) n
    go true q e = let x : c ≡ 48 = eqb-true c 48 q in rw x (zero_is m s e)
    go false q e = other_digit q (decimal_value 0 (c ∷ s)) refl e

pub is_number : (m : ℕ) (s : List ℕ) {n : ℕ} → NumberIs m s n → number m s ≡ Some n
unfolding number
is_number m [] h = absurd (h.written refl)
is_number m (c ∷ s) {n} h = go (c == 48) refl
  where
    go : (b : Bool) → (c == 48) ≡ b → cond b (only (empty s) (Some 0)) (up_to m (decimal_value 0 (c ∷ s))) ≡ Some n
    go true q =
        let x : c ≡ 48 = eqb-true c 48 q in
        let t : s ≡ [] = h.no_leading_zero s (ap (λ (y : ℕ). y ∷ s) x) in
        let i : decimal_from 0 (c ∷ s) ≡ n = h.is in
        let j : decimal_from 0 (48 ∷ []) ≡ n = subst (λ (l : List ℕ). decimal_from 0 l ≡ n) (ap₂ ◌∷◌ x t) i in
        rw t (ap Some j)
    go false q = rw (is_value 0 (c ∷ s) h.digits, h.is, le-leb n m h.most)

-- ---- prefix lengths

pub prefix_is : (m : ℕ) (v : List ℕ) {n : ℕ} → prefix_length_of m v ≡ Some n → LengthIs m v n
unfolding prefix_length_of
prefix_is m v {n} e = let t = then_some (number m v) positive e in go t.0 (number_is m v t.1) t.2
  where
    go : (k : ℕ) → NumberIs m v k → positive k ≡ Some n → LengthIs m v n
    go zero h e = absurd (none-some n e)
    go (suc k) h e =
        let q : suc k ≡ n = same_Some (suc k) n e in
        record { number = subst (NumberIs m v) q h; least = omega arith }

pub is_prefix : (m : ℕ) (v : List ℕ) {n : ℕ} → LengthIs m v n → prefix_length_of m v ≡ Some n
unfolding prefix_length_of
is_prefix m v {n} h = rw (is_number m v h.number) (go n h.least)
  where
    go : (k : ℕ) → 1 ≤ k → positive k ≡ Some k
    go zero l = absurd (omega arith)
    go (suc k) l = refl

-- ---- addresses

pub address_is : (v : List ℕ) {a : List ℕ} → address v ≡ Some a → AddressIs v a
unfolding address
address_is v {a} e =
    let s = sized_is 4 4 (each octet (pieces 46 v)) e in
    record { numbers = pieces 46 v; dots = pieces_are 46 v; four = s.0; each = each_pairwise octet (NumberIs 255) (λ p n k. number_is 255 p k) (pieces 46 v) s.1 }

pub is_address_lem : (v : List ℕ) {a : List ℕ} → AddressIs v a → address v ≡ Some a
unfolding address
is_address_lem v {a} h =
    is_sized 4 4 (each octet (pieces 46 v)) h.four
    (ap (each octet) (pieces_only 46 h.dots) ∙ pairwise_each octet (NumberIs 255) (λ p n k. is_number 255 p k) h.numbers a h.each)

-- a text without a dot is none
pub address_undotted : (v : List ℕ) → all (other 46) v ≡ true → address v ≡ None
unfolding address
address_undotted v h = rw (pieces_last 46 v h) (go (octet v))
  where
    go : (o : Option ℕ) → sized 4 4 (and_then o (λ n. Some (n ∷ []))) ≡ None
    go None = refl
    go (Some n) = refl

-- ---- lists of addresses

-- an address has a byte
pub some_address : (v : List ℕ) (a : List ℕ) → AddressIs v a → ¬ (v ≡ [])
unfolding address number
some_address v a h e = absurd (none-some a (ap address (sym_empty e) ∙ is_address_lem v h))
  where
    sym_empty : v ≡ [] → [] ≡ v
    sym_empty e = cc

all_written : (ps l : List (List ℕ)) → Pairwise AddressIs ps l → Each (λ p. ¬ (p ≡ [])) ps
all_written [] l h = tt
all_written (p ∷ ps) [] h = absurd h
all_written (p ∷ ps) (a ∷ l) h = (some_address p a h.0, all_written ps l h.1)

pub addresses_is : (sep : Separator) (v : List ℕ) {l : List (List ℕ)} → addresses sep v ≡ Some l → AddressesIs sep v l
unfolding addresses
addresses_is sep v {l} e =
    let s = sized_is 1 4 (each address (fields sep v)) e in
    let k = each_pairwise address AddressIs (λ p a i. address_is p i) (fields sep v) s.1 in
    record { texts = fields sep v; split = fields_split sep v (all_written (fields sep v) l k); each = k; count = s.0 }

pub is_addresses : (sep : Separator) (v : List ℕ) {l : List (List ℕ)} → AddressesIs sep v l → addresses sep v ≡ Some l
unfolding addresses
is_addresses sep v {l} h =
    is_sized 1 4 (each address (fields sep v)) h.count
    (ap (each address) (split_fields sep v h.split) ∙ pairwise_each address AddressIs (λ p a k. is_address_lem p k) h.texts l h.each)
