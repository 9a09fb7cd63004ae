-- The run goes on block by block (`Scan`), and then to the end of the text or byte by byte.
use Rattle.text.specs.Bytes.{between}
use Rattle.text.proofs.ScanLaws.{scan_then}
use borrow.Author.Rules.{rules}
use Rattle.text.proofs.scan.printable_end.Goals as goal

pub returns : goal.returns
returns c = scan_then (c.blocks_end-i.ensures.passed (between 32 126) (λ x r l e. search rules)) (c.end_of.ensures (between 32 126) (λ x r l e. search rules))
