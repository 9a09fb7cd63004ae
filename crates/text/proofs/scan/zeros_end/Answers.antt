-- The run of zeros goes on block by block (`Scan`), and then byte by byte.
use Rattle.text.specs.Bytes.{between}
use Rattle.text.proofs.ScanLaws.{scan_then}
use borrow.Author.Rules.{rules}
use Rattle.text.proofs.scan.zeros_end.Goals as goal

pub returns : goal.returns
returns c = scan_then (c.blocks_end.ensures.passed (between 0 0) (λ x r l e. search rules)) (c.end_of.ensures (between 0 0) (λ x r l e. search rules))
