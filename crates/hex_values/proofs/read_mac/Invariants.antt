use Rattle.hex_values.proofs.Pairs.{Paired}
use Rattle.hex_values.proofs.read_mac.Given as goal

abbrev pub invariant-loop-n : goal.invariant-loop-n
invariant-loop-n l = Paired l.s l.n l.bytes
