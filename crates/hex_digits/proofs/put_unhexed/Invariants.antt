use Rattle.hex_digits.proofs.Loops.{Unhexing}
use Rattle.hex_digits.proofs.put_unhexed.Given as goal

abbrev pub invariant-loop-n : goal.invariant-loop-n
invariant-loop-n l = Unhexing l.s l.n l.initial.out l.out
