-- The reading of the file, and the place that its answer gives.
use Rattle.lookups.proofs.Handing.{group_in_lem, group_placed}
use Rattle.lookups.proofs.by_place.group_place.Goals as goal

pub answered_place-requires : goal.answered_place-requires
answered_place-requires c = λ g. group_in_lem c.read.ensures c.requires c.asked-answer.ensures g

pub returns : goal.returns
returns c = group_placed c.read.ensures c.requires c.asked-answer.ensures c.answered_place.ensures
