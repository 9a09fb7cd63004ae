-- "The numbers a caller sees": the number, the line and the values of every answer.
use Rattle.std.specs.Prelude.{ℕ, Ok, Err}
use Rattle.rules.specs.declared.Refusal.{Refusal}
use Rattle.rules.specs.declared.Refusal.TheVariants.{Size, FileName, Unrecognized, Extension, BadHeader, UnknownGroup, RepeatedGroup, NoGroup, UnknownKey, RepeatedKey, ValueText, ValueKind, ManyServices, Missing, Contradiction, NoPlace, ShortBuffer, NoService, Malformed}
use Rattle.rules.specs.Answering.{Answer, Reading}

-- 01's table, without 0, "accepted"
abbrev pub number_of : Refusal → ℕ
number_of Size = 1
number_of FileName = 2
number_of Unrecognized = 3
number_of Extension = 4
number_of BadHeader = 5
number_of UnknownGroup = 6
number_of RepeatedGroup = 7
number_of NoGroup = 8
number_of UnknownKey = 9
number_of RepeatedKey = 10
number_of ValueText = 11
number_of ValueKind = 12
number_of ManyServices = 13
number_of Missing = 14
number_of Contradiction = 15
number_of NoPlace = 16
number_of ShortBuffer = 17
number_of NoService = 18
number_of Malformed = 19

-- what a caller sees of a reading: "An accepted reading also gives the number of setting lines and, for ConnMan, of services"; every other answer leaves "all other result fields zero"
pub record Seen : Type 0 where
  pub number : ℕ
  pub line : ℕ
  pub settings : ℕ
  pub services : ℕ

abbrev pub seen_of : Reading → Seen
seen_of (Ok c) = record { number = 0; line = 0; settings = c.settings; services = c.services }
seen_of (Err f) = record { number = number_of f.refusal; line = f.line; settings = 0; services = 0 }

-- the number and the line of any other answer; what else it gives stands beside it
abbrev pub answer_number : Answer → ℕ
answer_number (Ok u) = 0
answer_number (Err f) = number_of f.refusal

abbrev pub answer_line : Answer → ℕ
answer_line (Ok u) = 0
answer_line (Err f) = f.line
