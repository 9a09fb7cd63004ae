-- Numbers, addresses, masks and lists of addresses are printable: their digits are, and what stands between them.
use Rattle.std.specs.Prelude.{ℕ, zero, suc, List, ◌∷◌, ◌++◌, replicate, refl}
use Rattle.text.specs.Relations.{Each}
use Rattle.text.specs.RelationLaws.{pairwise_first}
use Rattle.text.specs.Laws.{all_append}
use Rattle.text.specs.Printable.{is_printable, Printable, digits_printable, pieces_printable}
use Rattle.addresses.specs.AddressRules.{NumberIs, AddressIs, MaskIs, LengthIs, Spaced, last, next, Split, AddressesIs}
use Rattle.addresses.specs.declared.Separator.{Separator}
use Rattle.addresses.specs.declared.Separator.TheVariants.{Spaces, Comma}

number_printable : {m : ℕ} {s : List ℕ} {n : ℕ} → NumberIs m s n → Printable s
number_printable {s = s} h = digits_printable s h.digits

pub length_printable : {m : ℕ} {v : List ℕ} {n : ℕ} → LengthIs m v n → Printable v
length_printable h = number_printable h.number

pub address_printable : {v a : List ℕ} → AddressIs v a → Printable v
address_printable {a = a} h =
    pieces_printable 46 refl h.dots
    (pairwise_first (NumberIs 255) Printable (λ p n. number_printable) h.numbers a h.each)

pub mask_printable : {v : List ℕ} {n : ℕ} → MaskIs v n → Printable v
mask_printable h = address_printable h.address

-- ---- lists of addresses

spaces_printable : (n : ℕ) → Printable (replicate n 32)
spaces_printable zero = refl
spaces_printable (suc n) = spaces_printable n

spaced_printable : {v : List ℕ} {ps : List (List ℕ)} → Spaced v ps → Each Printable ps → Printable v
spaced_printable (last {p} h n) e = all_append is_printable p (replicate n 32) e.0 (spaces_printable n)
spaced_printable (next {p} {rest} h n s) e =
    all_append is_printable p (32 ∷ replicate n 32 ++ rest) e.0
    (all_append is_printable (replicate n 32) rest (spaces_printable n) (spaced_printable s e.1))

split_printable : (sep : Separator) (v : List ℕ) (ps : List (List ℕ)) → Split sep v ps → Each Printable ps → Printable v
split_printable Comma v ps h e = pieces_printable 44 refl h e
split_printable Spaces v ps h e = spaced_printable h e

pub addresses_printable : {sep : Separator} {v : List ℕ} {l : List (List ℕ)} → AddressesIs sep v l → Printable v
addresses_printable {sep} {v} {l} h =
    split_printable sep v h.texts h.split
    (pairwise_first AddressIs Printable (λ p a. address_printable) h.texts l h.each)
