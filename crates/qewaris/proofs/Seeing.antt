-- An answer that is the definition's has the definition's number, line and counts.
use Prim.Native.Nat.{ℕ}
use mathlib.Core.Path.{◌≡◌, ap}
use mathlib.Core.List.{List}
use Rattle.text.specs.declared.Dialect.{Dialect}
use Rattle.rules.specs.Numbers.{seen_of, answer_number, answer_line}
use Rattle.rules.specs.Reading.{reading}
use Rattle.demands.specs.Demands.{Call, answer_of}
use Rattle.demands.specs.Telling.{Checks, TellsAnswer}
use Rattle.rules.specs.Answering.{Answer, Reading}

pub checks : (d : Dialect) (name file : List ℕ) {r : Reading} → r ≡ reading d name file → Checks d name file r
checks d name file e = record { is = e; seen = ap seen_of e }

pub tells_answer : (c : Call) {a : Answer} → a ≡ answer_of c → TellsAnswer c a
tells_answer c e = record { number = ap answer_number e; line = ap answer_line e }
