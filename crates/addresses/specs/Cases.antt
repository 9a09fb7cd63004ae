-- Worked cases: a text, and what document 01 says it is.
use Rattle.std.specs.Prelude.{◌≡◌, ℕ, List, [], ◌∷◌, ◌++◌, map, refl, None, Some}
use Rattle.text.specs.Words.{word}
use Rattle.addresses.specs.declared.Separator.TheVariants.{Spaces, Comma}
use Rattle.addresses.specs.Addresses.{decimal_value, number, address, prefix_length_of, length_up_to, mask_length, netmask, addresses}

abbrev Right : {A : Type 0} → (List ℕ → A) → List (List ℕ × A) → Type 0
Right {A} f t = map (λ (c : List ℕ × A). f c.0) t ≡ map (λ (c : List ℕ × A). c.1) t

-- "Addresses 01.2.3.4 and 256.1.1.1: 12."; "Address=10.20.0.14"; "four numbers"
pub address_cases : Right address
    ((word "01.2.3.4", None)
    ∷ (word "256.1.1.1", None)
    ∷ (word "10.20.0.14", Some (10 ∷ 20 ∷ 0 ∷ 14 ∷ []))
    ∷ (word "0.0.0.0", Some (0 ∷ 0 ∷ 0 ∷ 0 ∷ []))
    ∷ (word "1.2.3", None)
    ∷ (word "1.2.3.4.5", None)
    ∷ (word "1..2.3", None)
    ∷ [])
unfolding decimal_value number address
address_cases = refl

-- "Mask 255.0.255.0: 12."; "Mask 255.255.254.0: 23."; "there is at least one"
pub netmask_cases : Right netmask
    ((word "255.0.255.0", None)
    ∷ (word "255.255.254.0", Some 23)
    ∷ (word "0.0.0.0", None)
    ∷ (word "128.0.0.0", Some 1)
    ∷ (word "255.255.255.255", Some 32)
    ∷ [])
unfolding decimal_value number address length_up_to mask_length netmask
netmask_cases = refl

-- "length (1 to 32, no leading zero)"
pub length_cases : Right (prefix_length_of 32)
    ((word "0", None)
    ∷ (word "1", Some 1)
    ∷ (word "32", Some 32)
    ∷ (word "33", None)
    ∷ (word "08", None)
    ∷ (word "", None)
    ∷ [])
unfolding decimal_value number prefix_length_of
length_cases = refl

-- "1 to 4 addresses, one or more spaces between, trailing spaces allowed": none in front, and no tab
pub spaces_cases : Right (addresses Spaces)
    ((word "10.0.0.1  10.0.0.2 ", Some ((10 ∷ 0 ∷ 0 ∷ 1 ∷ []) ∷ (10 ∷ 0 ∷ 0 ∷ 2 ∷ []) ∷ []))
    ∷ (word " 10.0.0.1", None)
    ∷ (word "10.0.0.1" ++ (9 ∷ []), None)
    ∷ (word "1.1.1.1 2.2.2.2 3.3.3.3 4.4.4.4 5.5.5.5", None)
    ∷ (word "", None)
    ∷ (word " ", None)
    ∷ [])
unfolding decimal_value number address addresses
spaces_cases = refl

-- "Nameservers = 10.20.0.2,10.20.0.3"; "1 to 4 addresses, one comma between, no blanks"
pub comma_cases : Right (addresses Comma)
    ((word "10.20.0.2,10.20.0.3", Some ((10 ∷ 20 ∷ 0 ∷ 2 ∷ []) ∷ (10 ∷ 20 ∷ 0 ∷ 3 ∷ []) ∷ []))
    ∷ (word "10.0.0.1,", None)
    ∷ (word "10.0.0.1,,10.0.0.2", None)
    ∷ (word "10.0.0.1, 10.0.0.2", None)
    ∷ (word "", None)
    ∷ [])
unfolding decimal_value number address addresses
comma_cases = refl
