-- A byte is counted once or twice (`counting_one`, `counting_two`), by whether it has a letter.
use Rattle.escapes.proofs.Loops.{counting_one, counting_two, counting_end}
use native.Mathlib.Omega.{arith}
use borrow.Author.Rules.{rules}
use Rattle.escapes.proofs.escaped_len.Goals.{in-None, in-Some}
use Rattle.escapes.proofs.escaped_len.Goals as goal

pub loop-i-init : goal.loop-i-init
loop-i-init c = record { within = search rules; few = search rules; small = c.requires; rest = omega arith }

pub loop-i-preserved : goal.loop-i-preserved
loop-i-preserved c =
    elim c.match-letter.branch [
      | in-None w ↦ rw w.n-is (counting_one c.loop-i.invariant c.loop-i-test.true c.letter.ensures w.in-None.is)
      | in-Some w ↦ rw w.n-is (counting_two c.loop-i.invariant c.loop-i-test.true c.letter.ensures w.in-Some.is)
    ]

pub returns : goal.returns
returns c = search counting_end
