-- The run without the byte goes on block by block (`Scan`) to the block that holds it, or to the end of the text.
use native.Mathlib.Omega.{arith}
use Rattle.text.specs.Bytes.{other}
use Rattle.text.proofs.ScanLaws.{scan_on, scan_end, scan_last}
use borrow.Author.Rules.{rules}
use Rattle.text.proofs.scan.find.Goals as goal

pub returns-then-holds : goal.returns-then-holds
returns-then-holds c =
    let i = c.blocks_end-i.ensures in
    let last = c.holds.ensures (other c.args.b) (λ x r l e. search rules) c.if-holds.true in
    scan_end (scan_on (i.passed (other c.args.b) (λ x r l e. search rules)) (scan_last last (omega (arith, c.if-s-ge-BLOCK.true)) (omega (arith, c.if-s-i-ge-BLOCK.false)) i.within.1)) (search rules)
