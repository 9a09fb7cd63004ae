-- What is written of a value: it is text, it stands on a line, and it reads back by its kind.
use Rattle.std.specs.Prelude.{ℕ, ◌≤◌, ◌≡◌, refl, Bool, true, false, ◌||◌, List, [], ◌∷◌, ◌++◌, eqb, length, Some}
use Rattle.std.proofs.Common.{arith, ◌∙◌, true≢false, eqb-true}
use Rattle.text.specs.Bytes.{is_byte, between, in_line, is_blank, is_digit, is_lower_hex}
use Rattle.text.specs.Parts.{all, after, empty}
use Rattle.text.specs.Laws.{inside, between_low, between_high, pass_other, all_cons, all_weaken, all_other, all_append}
use Rattle.text.specs.Printable.{is_printable, Printable, range_printable}
use Rattle.utf8.specs.Utf8.{text, value_text, record_text}
use Rattle.utf8.specs.Laws.{text_printable}
use Rattle.escapes.specs.Escapes.{escape}
use Rattle.escapes.specs.Laws.{unescape_escape, escape_line, escape_start}
use Rattle.escapes.specs.TextLaws.{escape_text}
use Rattle.hex_digits.specs.Hex.{hex}
use Rattle.hex_digits.specs.Laws.{hex_lower}
use Rattle.addresses.specs.Addresses.{is_address, are_addresses, decimal, dotted, with_separators, listed, is_list_byte}
use Rattle.addresses.specs.Laws.{are_cons}
use Rattle.addresses.specs.Written.{decimal_digits, dotted_bytes, dotted_some, listed_bytes}
use Rattle.addresses.specs.declared.Separator.TheVariants.{Spaces}
use Rattle.ipv6.specs.Ipv6.{is_ipv6, canonical, is_ipv6_byte}
use Rattle.ipv6.specs.Written.{canonical_bytes}
use Rattle.kinds.specs.Kinds.{string}

-- a value's text that stands behind the `=` of a line: no byte 10 in it, and no blank in front
pub record StandsOnLine (v : List ℕ) : Type 0 where
  pub text : value_text v ≡ true
  pub line : all in_line v ≡ true
  pub start : after is_blank v ≡ v

-- ---- strings

pub escape_stands : (t : List ℕ) → record_text t ≡ true → StandsOnLine (escape t)
escape_stands t h = record { text = escape_text t ∙ h; line = escape_line t; start = escape_start t }

pub string_escape : (low high : ℕ) (t : List ℕ) → low ≤ length t → length t ≤ high →
    string low high (escape t) ≡ Some t
unfolding string
string_escape low high t h g = rw (unescape_escape t, inside {x = length t} low high h g)

-- ---- printable bytes

pub printable_stands : (v : List ℕ) → Printable v → after is_blank v ≡ v → StandsOnLine v
printable_stands v h s = record { text = text_printable true v h; line = all_other is_printable 10 refl v h; start = s }

-- bytes none of which is a blank, alone and in front of others
module _ (p : ℕ → Bool) (space : p 32 ≡ false) (tab : p 9 ≡ false) where
  start_cons : (x : ℕ) (r : List ℕ) → p x ≡ true → after is_blank (x ∷ r) ≡ x ∷ r
  start_cons x r h = rw (pass_other p 32 space x h, pass_other p 9 tab x h)

  start_whole : (l : List ℕ) → all p l ≡ true → after is_blank l ≡ l
  start_whole [] h = refl
  start_whole (x ∷ l) h = start_cons x l (all_cons p x l h).0

  class_stands : ((x : ℕ) → p x ≡ true → is_printable x ≡ true) → (v : List ℕ) → all p v ≡ true → StandsOnLine v
  class_stands f v h = printable_stands v (all_weaken p is_printable f v h) (start_whole v h)

  start_append : (l r : List ℕ) → empty l ≡ false → all p l ≡ true → after is_blank (l ++ r) ≡ l ++ r
  start_append [] r e h = absurd (true≢false e)
  start_append (x ∷ l) r e h = start_cons x (l ++ r) (all_cons p x l h).0

-- ---- keys

lower_printable : (x : ℕ) → is_lower_hex x ≡ true → is_printable x ≡ true
lower_printable x h = go (is_digit x) refl h
  where
    go : (t : Bool) → is_digit x ≡ t → t || between 97 102 x ≡ true → is_printable x ≡ true
    go true e f = range_printable 48 57 (omega arith) (omega arith) x e
    go false e f = range_printable 97 102 (omega arith) (omega arith) x f

pub hex_stands : (t : List ℕ) → all is_byte t ≡ true → StandsOnLine (hex t)
hex_stands t b = class_stands is_lower_hex refl refl lower_printable (hex t) (hex_lower t b)

-- ---- addresses and lists of them

dotted_printable : (x : ℕ) → between 46 57 x ≡ true → is_printable x ≡ true
dotted_printable = range_printable 46 57 (omega arith) (omega arith)

pub dotted_stands : (a : List ℕ) → is_address a ≡ true → StandsOnLine (dotted a)
dotted_stands a w = class_stands (between 46 57) refl refl dotted_printable (dotted a) (dotted_bytes a w)

list_printable : (x : ℕ) → is_list_byte Spaces x ≡ true → is_printable x ≡ true
list_printable x h = go (eqb x 32) refl h
  where
    go : (t : Bool) → eqb x 32 ≡ t → t || between 46 57 x ≡ true → is_printable x ≡ true
    go true e f = inside {x = x} 32 126 (omega (arith, eqb-true x 32 e)) (omega (arith, eqb-true x 32 e))
    go false e f = dotted_printable x f

pub listed_stands : (l : List (List ℕ)) → are_addresses l ≡ true → StandsOnLine (listed Spaces l)
listed_stands l w =
    printable_stands (listed Spaces l) (all_weaken (is_list_byte Spaces) is_printable list_printable (listed Spaces l) (listed_bytes Spaces l w)) (start l w)
  where
    start : (l : List (List ℕ)) → are_addresses l ≡ true → after is_blank (listed Spaces l) ≡ listed Spaces l
    start [] w = refl
    start (a ∷ l) w =
        let h = (are_cons a l w).0 in
        start_append (between 46 57) refl refl (dotted a) (with_separators Spaces l) (dotted_some a h) (dotted_bytes a h)

-- ---- IPv6 addresses, alone and with a length: bytes from `/` to `f`

sized_printable : (x : ℕ) → between 47 102 x ≡ true → is_printable x ≡ true
sized_printable = range_printable 47 102 (omega arith) (omega arith)

digit_sized : (x : ℕ) → is_digit x ≡ true → between 47 102 x ≡ true
digit_sized x h =
    inside {x = x} 47 102 (omega (arith, between_low {x = x} 48 57 h)) (omega (arith, between_high {x = x} 48 57 h))

ipv6_sized : (x : ℕ) → is_ipv6_byte x ≡ true → between 47 102 x ≡ true
ipv6_sized x h = go (is_digit x) refl (between 97 102 x) refl h
  where
    go : (a : Bool) → is_digit x ≡ a → (b : Bool) → between 97 102 x ≡ b → a || b || eqb x 58 ≡ true → between 47 102 x ≡ true
    go true e b f k = digit_sized x e
    go false e true f k =
        inside {x = x} 47 102 (omega (arith, between_low {x = x} 97 102 f)) (omega (arith, between_high {x = x} 97 102 f))
    go false e false f k = inside {x = x} 47 102 (omega (arith, eqb-true x 58 k)) (omega (arith, eqb-true x 58 k))

canonical_sized : (a : List ℕ) → is_ipv6 a ≡ true → all (between 47 102) (canonical a) ≡ true
canonical_sized a w = all_weaken is_ipv6_byte (between 47 102) ipv6_sized (canonical a) (canonical_bytes a w)

pub canonical_stands : (a : List ℕ) → is_ipv6 a ≡ true → StandsOnLine (canonical a)
canonical_stands a w = class_stands (between 47 102) refl refl sized_printable (canonical a) (canonical_sized a w)

pub with_length_stands : (a : List ℕ) (n : ℕ) → is_ipv6 a ≡ true → n ≤ 128 →
    StandsOnLine (canonical a ++ 47 ∷ decimal n)
with_length_stands a n w h =
    class_stands (between 47 102) refl refl sized_printable (canonical a ++ 47 ∷ decimal n) (all_append (between 47 102) (canonical a) (47 ∷ decimal n) (canonical_sized a w) (all_weaken is_digit (between 47 102) digit_sized (decimal n) (decimal_digits n (omega arith))))
