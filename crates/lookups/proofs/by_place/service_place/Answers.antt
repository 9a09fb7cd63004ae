-- The reading of the file, and the place that the service's answer gives.
use Rattle.lookups.proofs.Handing.{service_in, service_placed}
use Rattle.lookups.proofs.by_place.service_place.Goals as goal

pub answered_place-requires : goal.answered_place-requires
answered_place-requires c = λ g. service_in c.read.ensures c.args.service c.args.k c.requires c.asked_of-answer.ensures g

pub returns : goal.returns
returns c = service_placed c.read.ensures c.args.service c.args.k c.requires c.asked_of-answer.ensures c.answered_place.ensures
