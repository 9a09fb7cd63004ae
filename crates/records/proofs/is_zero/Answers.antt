-- The run of zeros from the front ends at the end (`all_run`).
use Rattle.text.proofs.ScanLaws.{all_run}
use borrow.Author.Rules.{rules}
use Rattle.records.proofs.is_zero.Goals as goal

pub returns : goal.returns
returns c = all_run c.zeros_end.ensures
