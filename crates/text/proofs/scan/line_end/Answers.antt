-- The line goes on block by block (`Scan`) to the block that holds its end, or to what is left behind the blocks.
use Rattle.text.specs.Bytes.{in_line}
use Rattle.text.proofs.ScanLaws.{scan_then}
use borrow.Author.Rules.{rules}
use Rattle.text.proofs.scan.line_end.Goals as goal

pub returns-then-s-i-ge-BLOCK : goal.returns-then-s-i-ge-BLOCK
returns-then-s-i-ge-BLOCK c = scan_then (c.blocks_end-i.ensures.passed in_line (λ x r l e. search rules)) c.find_in_block.ensures

pub returns : goal.returns
returns c = scan_then (c.blocks_end-i.ensures.passed in_line (λ x r l e. search rules)) c.find_near.ensures
