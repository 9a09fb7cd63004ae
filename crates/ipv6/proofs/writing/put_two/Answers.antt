-- Two digits, one behind the other (`wrote_two`).
use native.Mathlib.Omega.{arith}
use lib.ListN.{length-set}
use Rattle.put.specs.Laws.{wrote_two}
use Rattle.ipv6.proofs.writing.put_two.Goals as goal

pub bounds-out-at-2 : goal.bounds-out-at-2
bounds-out-at-2 c = simp length-set (omega arith)

pub returns : goal.returns
returns c = rw (c.hex_digit.ensures, c.hex_digit-2.ensures) (wrote_two _ _ _ _ c.requires)
