-- What is written reads back, and of which bytes it is made.
use Rattle.std.specs.Prelude.{◌≡◌, ℕ, zero, suc, ◌<◌, ◌≤◌, Bool, true, false, ◌&&◌, ◌||◌, List, [], ◌∷◌, ◌++◌, map, length, ◌==◌, refl, Option, None, Some}
use Rattle.std.proofs.Math.Path.{ap}
use Rattle.std.proofs.Common.{◌∙◌, append_assoc, append-nil, arith, eqb-true, eq-eqb}
use Rattle.std.proofs.lemmas.Bool.{false≢true}
use Rattle.text.specs.Bytes.{between, other, is_digit}
use Rattle.text.specs.Parts.{all, empty, pieces}
use Rattle.text.specs.Options.{is_some, each}
use Rattle.text.specs.Laws.{all_weaken, and_true, all_append, inside, between_low, between_high, is_other, below, below_at, pieces_append, pieces_last}
use Rattle.addresses.specs.declared.Separator.{Separator}
use Rattle.addresses.specs.declared.Separator.TheVariants.{Spaces, Comma}
use Rattle.addresses.specs.Addresses.{decimal_value, number, octet, address, is_address, as_number, length_up_to, mask_length, netmask, mask_bytes, separator, non_empty, spaced, fields, addresses, are_addresses, decimal, dot_then, dotted, with_separators, listed, is_list_byte}
use Rattle.addresses.specs.Laws.{address_elim, are_cons}

-- ---- a number: a test computed at each byte

abbrev is : Option ℕ → ℕ → Bool
is None n = false
is (Some v) n = v == n

is_some_lem : (o : Option ℕ) (n : ℕ) → is o n ≡ true → o ≡ Some n
is_some_lem None n e = absurd (false≢true e)
is_some_lem (Some v) n e = ap Some (eqb-true v n e)

decimal_right : ℕ → Bool
decimal_right n = is (octet (decimal n)) n && all is_digit (decimal n)

each_decimal : below decimal_right 256 ≡ true
unfolding decimal_right number decimal_value decimal
each_decimal = refl

pub number_decimal : (n : ℕ) → n < 256 → octet (decimal n) ≡ Some n
unfolding decimal_right
number_decimal n h = is_some_lem _ n (and_true _ _ (below_at decimal_right 256 each_decimal n h)).0

pub decimal_digits : (n : ℕ) → n < 256 → all is_digit (decimal n) ≡ true
unfolding decimal_right
decimal_digits n h = (and_true (is (octet (decimal n)) n) _ (below_at decimal_right 256 each_decimal n h)).1

-- ---- an address

decimal_undotted : (n : ℕ) → n < 256 → all (other 46) (decimal n) ≡ true
decimal_undotted n h =
    all_weaken is_digit (other 46) (λ x e. is_other x 46 (λ k. omega (arith, k, between_low {x = x} 48 57 e))) (decimal n) (decimal_digits n h)

regroup : (a b c d : List ℕ) → a ++ (46 ∷ b) ++ (46 ∷ c) ++ d ≡ a ++ (46 ∷ (b ++ (46 ∷ (c ++ d))))
regroup a b c d = simp append_assoc

module _ (a b c d : ℕ) (ha : a < 256) (hb : b < 256) (hc : c < 256) (hd : d < 256) where
  dotted_pieces : pieces 46 (dotted (a ∷ b ∷ c ∷ d ∷ [])) ≡ decimal a ∷ decimal b ∷ decimal c ∷ decimal d ∷ []
  unfolding dotted
  dotted_pieces =
      ap (pieces 46) (regroup (decimal a) (decimal b) (decimal c) (dot_then d))
      ∙ pieces_append 46 (decimal a) (decimal b ++ (46 ∷ (decimal c ++ (46 ∷ decimal d)))) (decimal_undotted a ha)
      ∙ ap (λ (ps : List (List ℕ)). decimal a ∷ ps)
      (pieces_append 46 (decimal b) (decimal c ++ (46 ∷ decimal d)) (decimal_undotted b hb)
      ∙ ap (λ (ps : List (List ℕ)). decimal b ∷ ps)
      (pieces_append 46 (decimal c) (decimal d) (decimal_undotted c hc)
      ∙ ap (λ (ps : List (List ℕ)). decimal c ∷ ps) (pieces_last 46 (decimal d) (decimal_undotted d hd))))

  four_dotted : address (dotted (a ∷ b ∷ c ∷ d ∷ [])) ≡ Some (a ∷ b ∷ c ∷ d ∷ [])
  unfolding address
  four_dotted = rw (dotted_pieces, number_decimal a ha, number_decimal b hb, number_decimal c hc, number_decimal d hd)

  four_bytes : all (between 46 57) (dotted (a ∷ b ∷ c ∷ d ∷ [])) ≡ true
  unfolding dotted
  four_bytes =
      all_append (between 46 57) (decimal a ++ dot_then b ++ dot_then c) (dot_then d)
      (all_append (between 46 57) (decimal a ++ dot_then b) (dot_then c) (all_append (between 46 57) (decimal a) (dot_then b) (wide a ha) (wide b hb)) (wide c hc))
      (wide d hd)
    where
      wide : (n : ℕ) → n < 256 → all (between 46 57) (decimal n) ≡ true
      wide n h =
          all_weaken is_digit (between 46 57) (λ x e. inside {x = x} 46 57 (omega (arith, between_low {x = x} 48 57 e)) (between_high {x = x} 48 57 e)) (decimal n) (decimal_digits n h)

-- an address reads back, and is of digits and dots (and 47, `/`, which stands between)
pub address_dotted : (a : List ℕ) → is_address a ≡ true → address (dotted a) ≡ Some a
address_dotted = address_elim (λ a. address (dotted a) ≡ Some a) four_dotted

pub dotted_bytes : (a : List ℕ) → is_address a ≡ true → all (between 46 57) (dotted a) ≡ true
dotted_bytes = address_elim (λ a. all (between 46 57) (dotted a) ≡ true) four_bytes

-- ---- a mask: a test computed at each length

bytes_right : ℕ → Bool
bytes_right k = is_address (mask_bytes k)

each_bytes : below bytes_right 33 ≡ true
unfolding bytes_right mask_bytes
each_bytes = refl

length_right : ℕ → Bool
length_right k = is (mask_length (as_number (mask_bytes (suc k)))) (suc k)

each_length : below length_right 32 ≡ true
unfolding length_right length_up_to mask_length mask_bytes
each_length = refl

-- the bytes of a mask are an address, which reads back as its length
pub mask_address : (k : ℕ) → k ≤ 32 → is_address (mask_bytes k) ≡ true
unfolding bytes_right
mask_address k h = below_at bytes_right 33 each_bytes k (omega arith)

pub mask_length_lem : (k : ℕ) → 1 ≤ k → k ≤ 32 → mask_length (as_number (mask_bytes k)) ≡ Some k
unfolding length_right
mask_length_lem zero h g = absurd (omega arith)
mask_length_lem (suc k) h g = is_some_lem _ (suc k) (below_at length_right 32 each_length k (omega arith))

pub netmask_dotted : (k : ℕ) → 1 ≤ k → k ≤ 32 → netmask (dotted (mask_bytes k)) ≡ Some k
unfolding netmask
netmask_dotted k h g = rw (address_dotted (mask_bytes k) (mask_address k g)) (mask_length_lem k h g)

-- ---- a list of addresses

pub dotted_some : (a : List ℕ) → is_address a ≡ true → empty (dotted a) ≡ false
unfolding address number
dotted_some a h = go (dotted a) (address_dotted a h)
  where
    go : (s : List ℕ) → address s ≡ Some a → empty s ≡ false
    go [] e = absurd (false≢true (ap is_some e))
    go (x ∷ s) e = refl

module _ (sep : Separator) where
  dotted_apart : (a : List ℕ) → is_address a ≡ true → all (other (separator sep)) (dotted a) ≡ true
  dotted_apart a h =
      all_weaken (between 46 57) (other (separator sep)) (λ x e. is_other x (separator sep) (λ k. omega (arith, k, between_low {x = x} 46 57 e, low sep))) (dotted a) (dotted_bytes a h)
    where
      low : (d : Separator) → separator d < 46
      low Spaces = omega arith
      low Comma = omega arith

  listed_pieces : (a : List ℕ) (l : List (List ℕ)) → is_address a ≡ true → are_addresses l ≡ true →
      pieces (separator sep) (dotted a ++ with_separators sep l) ≡ map dotted (a ∷ l)
  listed_pieces a [] h k = rw (append-nil (dotted a)) (pieces_last (separator sep) (dotted a) (dotted_apart a h))
  listed_pieces a (b ∷ l) h k =
      pieces_append (separator sep) (dotted a) (dotted b ++ with_separators sep l) (dotted_apart a h)
      ∙ ap (λ (ps : List (List ℕ)). dotted a ∷ ps) (listed_pieces b l (are_cons b l k).0 (are_cons b l k).1)

none_empty : (l : List (List ℕ)) → are_addresses l ≡ true → non_empty (map dotted l) ≡ map dotted l
none_empty [] h = refl
none_empty (a ∷ l) h = rw (dotted_some a (are_cons a l h).0, none_empty l (are_cons a l h).1)

listed_fields : (sep : Separator) (a : List ℕ) (l : List (List ℕ)) → is_address a ≡ true → are_addresses l ≡ true →
    fields sep (listed sep (a ∷ l)) ≡ map dotted (a ∷ l)
listed_fields Comma a l h k = listed_pieces Comma a l h k
listed_fields Spaces a l h k =
    ap spaced (listed_pieces Spaces a l h k) ∙ ap (λ (ps : List (List ℕ)). dotted a ∷ ps) (none_empty l k)

each_dotted : (l : List (List ℕ)) → are_addresses l ≡ true → each address (map dotted l) ≡ Some l
each_dotted [] h = refl
each_dotted (a ∷ l) h = rw (address_dotted a (are_cons a l h).0, each_dotted l (are_cons a l h).1)

-- a list reads back, and is of its addresses' bytes and its separator
pub addresses_listed : (sep : Separator) (l : List (List ℕ)) → between 1 4 (length l) ≡ true → are_addresses l ≡ true →
    addresses sep (listed sep l) ≡ Some l
unfolding addresses
addresses_listed sep [] n h = absurd (false≢true n)
addresses_listed sep (a ∷ l) n h =
    rw (listed_fields sep a l (are_cons a l h).0 (are_cons a l h).1, each_dotted (a ∷ l) h, n)

module _ (sep : Separator) where
  dotted_list_bytes : (a : List ℕ) → is_address a ≡ true → all (is_list_byte sep) (dotted a) ≡ true
  dotted_list_bytes a h =
      all_weaken (between 46 57) (is_list_byte sep) (λ x e. wider x (x == separator sep) e) (dotted a) (dotted_bytes a h)
    where
      wider : (x : ℕ) (t : Bool) → between 46 57 x ≡ true → (t || between 46 57 x) ≡ true
      wider x true e = refl
      wider x false e = e

  separators_bytes : (l : List (List ℕ)) → are_addresses l ≡ true → all (is_list_byte sep) (with_separators sep l) ≡ true
  separators_bytes [] h = refl
  separators_bytes (a ∷ l) h =
      rw (eq-eqb (separator sep) (separator sep) refl) (all_append (is_list_byte sep) (dotted a) (with_separators sep l) (dotted_list_bytes a (are_cons a l h).0) (separators_bytes l (are_cons a l h).1))

  pub listed_bytes : (l : List (List ℕ)) → are_addresses l ≡ true → all (is_list_byte sep) (listed sep l) ≡ true
  listed_bytes [] h = refl
  listed_bytes (a ∷ l) h =
      all_append (is_list_byte sep) (dotted a) (with_separators sep l) (dotted_list_bytes a (are_cons a l h).0) (separators_bytes l (are_cons a l h).1)
