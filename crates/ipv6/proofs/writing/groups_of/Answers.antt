-- The groups one after another (`Grouping`).
use Rattle.ipv6.proofs.Putting.{grouping_first, grouping_turn, grouping_end}
use Rattle.ipv6.proofs.writing.groups_of.Goals as goal

pub loop-i-init : goal.loop-i-init
loop-i-init c = grouping_first _

pub loop-i-preserved : goal.loop-i-preserved
loop-i-preserved c = search grouping_turn

pub returns : goal.returns
returns c = search grouping_end
