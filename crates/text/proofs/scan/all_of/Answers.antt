-- Every byte is of the class where its run from the front ends at the end (`all_run`).
use Rattle.text.proofs.ScanLaws.{all_run}
use Rattle.text.proofs.scan.all_of.Goals as goal

pub returns : goal.returns
returns c = all_run c.run_end.ensures
