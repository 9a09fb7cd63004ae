use Rattle.hex_digits.proofs.Loops.{Hexing}
use Rattle.hex_digits.proofs.put_hex.Given as goal

abbrev pub invariant-loop-b : goal.invariant-loop-b
invariant-loop-b l = Hexing l.s l.b-index l.at l.initial.out l.out l.p
