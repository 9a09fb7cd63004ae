-- What is read: addresses of four bytes, and one to four of them in a list.
use Rattle.std.specs.Prelude.{◌≡◌, ℕ, ◌<◌, ◌≤◌, true, List, [], ◌∷◌, length, take, refl, Option, Some}
use Rattle.std.proofs.Common.{ap, ◌∙◌, arith}
use Rattle.std.proofs.lemmas.Option.{same_Some}
use Rattle.std.proofs.Math.Seq.{take-append_seam}
use Rattle.text.specs.Bytes.{between}
use Rattle.text.specs.Parts.{all}
use Rattle.text.specs.Options.{is_some, sized, or_empty}
use Rattle.text.specs.OptionLaws.{some_is, sized_is, is_sized}
use Rattle.text.specs.Relations.{Pairwise}
use Rattle.text.specs.Laws.{and_true, all_cons, inside, between_high}
use Rattle.addresses.specs.declared.Separator.{Separator}
use Rattle.addresses.specs.Addresses.{is_bytes, address, is_address, addresses, are_addresses, rows}
use Rattle.addresses.specs.AddressRules.{NumberIs, AddressIs}
use Rattle.addresses.specs.AddressRuleLaws.{address_is, is_address_lem, addresses_is}

-- ---- so many bytes

module _ (n : ℕ) (a : List ℕ) where
  pub bytes_length : is_bytes n a ≡ true → length a ≡ n
  bytes_length e =
      let k = some_is (sized n n (Some a)) (and_true (is_some (sized n n (Some a))) _ e).0 in
      let s = sized_is n n (Some a) k.1 in
      ap length (same_Some a k.0 s.1) ∙ omega (arith, s.0)

  pub bytes_each : is_bytes n a ≡ true → all (between 0 255) a ≡ true
  bytes_each e = (and_true (is_some (sized n n (Some a))) _ e).1

  pub are_bytes : length a ≡ n → all (between 0 255) a ≡ true → is_bytes n a ≡ true
  are_bytes l h = rw (inside {x = length a} n n (omega arith) (omega arith)) h

-- ---- addresses of four bytes

pub address_length_lem : (a : List ℕ) → is_address a ≡ true → length a ≡ 4
address_length_lem = bytes_length 4

-- what holds of each four bytes holds of an address
pub address_elim : (P : List ℕ → Type 0) →
    ((x y z w : ℕ) → x < 256 → y < 256 → z < 256 → w < 256 → P (x ∷ y ∷ z ∷ w ∷ [])) → (a : List ℕ) →
    is_address a ≡ true → P a
address_elim P f a e = go a (address_length_lem a e) (bytes_each 4 a e)
  where
    small : (x : ℕ) → between 0 255 x ≡ true → x < 256
    small x h = omega (arith, between_high {x = x} 0 255 h)

    go : (l : List ℕ) → length l ≡ 4 → all (between 0 255) l ≡ true → P l
    go [] n h = absurd (omega arith)
    go (x ∷ []) n h = absurd (omega arith)
    go (x ∷ y ∷ []) n h = absurd (omega arith)
    go (x ∷ y ∷ z ∷ []) n h = absurd (omega arith)
    go (x ∷ y ∷ z ∷ w ∷ v ∷ l) n h = absurd (omega arith)
    go (x ∷ y ∷ z ∷ w ∷ []) n h =
        let b = all_cons (between 0 255) x (y ∷ z ∷ w ∷ []) h in
        let c = all_cons (between 0 255) y (z ∷ w ∷ []) b.1 in
        let d = all_cons (between 0 255) z (w ∷ []) c.1 in
        f x y z w (small x b.0) (small y c.0) (small z d.0) (small w (all_cons (between 0 255) w [] d.1).0)

pub are_cons : (a : List ℕ) (l : List (List ℕ)) → are_addresses (a ∷ l) ≡ true →
    (is_address a ≡ true) × (are_addresses l ≡ true)
are_cons a l h = and_true (is_address a) (are_addresses l) h

-- ---- readings

numbers_bytes : (ps : List (List ℕ)) (a : List ℕ) → Pairwise (NumberIs 255) ps a → all (between 0 255) a ≡ true
numbers_bytes [] [] h = refl
numbers_bytes [] (n ∷ a) h = absurd h
numbers_bytes (p ∷ ps) [] h = absurd h
numbers_bytes (p ∷ ps) (n ∷ a) h =
    rw (inside {x = n} 0 255 (omega arith) h.0.most) (numbers_bytes ps a h.1)

-- what is read as an address is four bytes
pub address_bytes_lem : (s : List ℕ) {a : List ℕ} → address s ≡ Some a → is_address a ≡ true
address_bytes_lem s {a} e =
    let h = address_is s e in
    rw (is_sized 4 4 (Some a) h.four refl) (numbers_bytes h.numbers a h.each)

texts_addresses : (ps l : List (List ℕ)) → Pairwise AddressIs ps l → are_addresses l ≡ true
texts_addresses [] [] h = refl
texts_addresses [] (a ∷ l) h = absurd h
texts_addresses (p ∷ ps) [] h = absurd h
texts_addresses (p ∷ ps) (a ∷ l) h = rw (address_bytes_lem p (is_address_lem p h.0)) (texts_addresses ps l h.1)

-- what is read as a list is one to four of them
pub addresses_good : (sep : Separator) (s : List ℕ) {l : List (List ℕ)} → addresses sep s ≡ Some l →
    (1 ≤ length l) × (length l ≤ 4) × (are_addresses l ≡ true)
addresses_good sep s {l} e =
    let h = addresses_is sep s e in
    (h.count.least, h.count.most, texts_addresses h.texts l h.each)

-- the front of the array of a list is the list
pub rows_take : (o : Option (List (List ℕ))) → take (length (or_empty o)) (rows o) ≡ or_empty o
rows_take o = take-append_seam (or_empty o) _
