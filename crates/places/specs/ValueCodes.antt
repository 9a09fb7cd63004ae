-- What the table of places keeps of a value that the code has read.
use Rattle.std.specs.Prelude.{ℕ}
use Rattle.text.specs.declared.Place.{Place}
use Rattle.kinds.specs.declared.Value.{Value}
use Rattle.kinds.specs.declared.Value.TheVariants as X
use Rattle.rules.specs.WordNumbers.{word_number}
use Rattle.places.specs.Holds.{flag_code}

-- the code of a value
abbrev pub value_code : Value → ℕ
value_code (X.Flag b) = flag_code b
value_code (X.Mask n) = n
value_code (X.Word w) = word_number w
value_code (X.Text p) = 0

-- the place of a text, which a value of any other kind has not
abbrev pub text_place : Value → Place
text_place (X.Flag b) = record { start = 0; end = 0 }
text_place (X.Mask n) = record { start = 0; end = 0 }
text_place (X.Word w) = record { start = 0; end = 0 }
text_place (X.Text p) = p
