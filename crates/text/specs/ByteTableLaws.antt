-- What a mask takes of the table of bytes is what document 01 says, at every byte: a test that is computed at every choice of the
-- bits, and one law that turns it into the rule at a byte.
use Rattle.std.specs.Prelude.{ℕ, zero, suc, ◌≡◌, refl, Bool, true, false, not, ◌&&◌, ◌||◌, List, [], ◌∷◌, length}
use Rattle.std.proofs.Common.{sym}
use Rattle.text.specs.declared.Dialect.{Dialect}
use Rattle.text.specs.declared.Dialect.TheVariants.{Iwd, ConnMan}
use Rattle.text.specs.declared.Class.{Class}
use Rattle.text.specs.declared.Class.TheVariants.{Space, Header, Plain, Alphanumeric, Identifier, HexDigit, LowerHex, Entry}
use Rattle.text.specs.Bytes.{is_digit, is_blank, is_key_byte, is_plain, member_of}
use Rattle.text.specs.ByteTable.{columns, number, entry_of, meets, chosen, key_columns, columns_of}
use Rattle.text.specs.Laws.{and_true}

-- a test that passes at every list of n bits: computed once, it passes at each
abbrev each : ℕ → (List Bool → Bool) → Bool
each zero f = f []
each (suc n) f = each n (λ bs. f (true ∷ bs)) && each n (λ bs. f (false ∷ bs))

each_at : (f : List Bool → Bool) (bs : List Bool) → each (length bs) f ≡ true → f bs ≡ true
each_at f [] e = e
each_at f (b ∷ bs) e = go b (each_at (λ cs. f (true ∷ cs)) bs h.0) (each_at (λ cs. f (false ∷ cs)) bs h.1)
  where
    h : (each (length bs) (λ cs. f (true ∷ cs)) ≡ true) × (each (length bs) (λ cs. f (false ∷ cs)) ≡ true)
    h = and_true (each (length bs) (λ cs. f (true ∷ cs))) (each (length bs) (λ cs. f (false ∷ cs))) e

    go : (t : Bool) → f (true ∷ bs) ≡ true → f (false ∷ bs) ≡ true → f (t ∷ bs) ≡ true
    go true l r = l
    go false l r = r

abbrev alike : Bool → Bool → Bool
alike true b = b
alike false b = not b

alike_eq : (a b : Bool) → alike a b ≡ true → a ≡ b
alike_eq true b e = sym e
alike_eq false true e = e
alike_eq false false e = refl

-- ---- a mask takes the bytes that a rule over the columns takes

abbrev agrees : ℕ → (List Bool → Bool) → List Bool → Bool
agrees mask rule bs = alike (meets mask (number 1 bs)) (rule bs)

chosen_by_lem : (mask : ℕ) (rule : List Bool → Bool) → each 8 (agrees mask rule) ≡ true → (x : ℕ) → chosen mask x ≡ rule (columns x)
unfolding chosen entry_of
chosen_by_lem mask rule e x = alike_eq _ _ (each_at (agrees mask rule) (columns x) e)

-- the columns
abbrev column : ℕ → List Bool → Bool
column n [] = false
column zero (b ∷ bs) = b
column (suc n) (b ∷ bs) = column n bs

abbrev letter : List Bool → Bool
letter = column 0

abbrev digit : List Bool → Bool
digit = column 1

abbrev underscore : List Bool → Bool
underscore = column 4

abbrev minus : List Bool → Bool
minus = column 5

abbrev alphanumeric : List Bool → Bool
alphanumeric bs = letter bs || digit bs

abbrev joint : List Bool → Bool
joint bs = underscore bs || minus bs

pub chosen_digit : (x : ℕ) → chosen 2 x ≡ is_digit x
chosen_digit = chosen_by_lem 2 digit refl

pub chosen_blank : (x : ℕ) → chosen 8 x ≡ is_blank x
chosen_blank = chosen_by_lem 8 (column 3) refl

pub chosen_key : (d : Dialect) (x : ℕ) → chosen (key_columns d) x ≡ is_key_byte d x
unfolding is_key_byte
chosen_key Iwd = chosen_by_lem (key_columns Iwd) (λ bs. alphanumeric bs || (joint bs || false)) refl
chosen_key ConnMan = chosen_by_lem (key_columns ConnMan) (λ bs. alphanumeric bs || (joint bs || column 6 bs)) refl

pub chosen_member : (c : Class) → (columns_of c ≡ 0 → ⊥) → (x : ℕ) → chosen (columns_of c) x ≡ member_of c x
unfolding is_plain
chosen_member Space n = chosen_by_lem (columns_of Space) (column 7) refl
chosen_member Header n = absurd (n refl)
chosen_member Plain n = chosen_by_lem (columns_of Plain) (λ bs. column 7 bs || (alphanumeric bs || joint bs)) refl
chosen_member Alphanumeric n = chosen_by_lem (columns_of Alphanumeric) alphanumeric refl
chosen_member Identifier n = chosen_by_lem (columns_of Identifier) (λ bs. underscore bs || alphanumeric bs) refl
chosen_member HexDigit n = chosen_by_lem (columns_of HexDigit) (column 2) refl
chosen_member LowerHex n = absurd (n refl)
chosen_member Entry n = absurd (n refl)
