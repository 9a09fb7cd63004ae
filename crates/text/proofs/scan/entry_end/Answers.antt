-- The entry goes on block by block (`Scan`), since a byte above the comma is one of an entry, and then byte by byte.
use Rattle.text.specs.Bytes.{between}
use Rattle.text.specs.Laws.{above_comma}
use Rattle.text.proofs.ScanLaws.{scan_then, scan_as}
use borrow.Author.Rules.{rules}
use Rattle.text.proofs.scan.entry_end.Goals as goal

pub returns : goal.returns
returns c = scan_then (scan_as (c.blocks_end-i.ensures.passed (between 45 255) (λ x r l e. search rules)) above_comma (search rules)) c.compared_end.ensures
