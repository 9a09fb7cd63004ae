-- What a caller sees of an answer: "For each answer that is an enum, a definition gives this paper's number and values for
-- every case of that enum. The promises use that definition."
use Rattle.std.specs.Prelude.{ℕ, ◌≡◌, List}
use Rattle.text.specs.declared.Dialect.{Dialect}
use Rattle.rules.specs.Numbers.{seen_of, answer_number, answer_line}
use Rattle.rules.specs.Reading.{reading}
use Rattle.demands.specs.Demands.{Call, answer_of}
use Rattle.rules.specs.Answering.{Answer, Reading}

-- the reading r of a file: the definition's, and its number, line and counts
pub record Checks (d : Dialect) (name file : List ℕ) (r : Reading) : Type 0 where
  pub is : r ≡ reading d name file
  pub seen : seen_of r ≡ seen_of (reading d name file)

-- the answer a to a call has the number and the line of what the call is answered
pub record TellsAnswer (c : Call) (a : Answer) : Type 0 where
  pub number : answer_number a ≡ answer_number (answer_of c)
  pub line : answer_line a ≡ answer_line (answer_of c)
