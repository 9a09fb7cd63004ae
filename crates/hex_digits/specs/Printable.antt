-- Hex digits are printable, so a text of them is.
use Rattle.std.specs.Prelude.{ℕ, ◌+◌, ◌≡◌, refl, true, List}
use Rattle.std.proofs.Common.{arith}
use Rattle.text.specs.Laws.{inside}
use Rattle.text.specs.Printable.{is_printable, Printable}
use Rattle.hex_digits.specs.HexRules.{HexDigit, decimal, lower, upper, Hex, no_more, pair}

pub digit_printable : {c x : ℕ} → HexDigit c x → is_printable c ≡ true
digit_printable (decimal n h) = inside {x = 48 + n} 32 126 (omega arith) (omega arith)
digit_printable (lower n h) = inside {x = 97 + n} 32 126 (omega arith) (omega arith)
digit_printable (upper n h) = inside {x = 65 + n} 32 126 (omega arith) (omega arith)

pub hex_printable : {s t : List ℕ} → Hex s t → Printable s
hex_printable no_more = refl
hex_printable (pair h k) = rw (digit_printable h.first, digit_printable h.second) (hex_printable k)
