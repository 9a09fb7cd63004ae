-- The run goes on byte by byte (`Scan`) to a byte of which the test does not hold, or to the end.
use Rattle.text.proofs.ScanLaws.{scan_stop, scan_end}
use borrow.Author.Rules.{rules}
use Rattle.text.proofs.scan.end_of.Goals as goal
use Rattle.text.proofs.scan.end_of.Goals.{then-loop-i-test+else-is, else-loop-i-test}

pub returns : goal.returns
returns g c =
    λ p h.
    elim c.loop-i-test.branch [
      | then-loop-i-test+else-is w ↦ scan_stop (c.loop-i.invariant p h) (search rules) (search (rules, h))
      | else-loop-i-test w ↦ scan_end (c.loop-i.invariant p h) (search rules)
    ]
