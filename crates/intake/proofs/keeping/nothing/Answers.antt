-- Of no input nothing is kept (`nothing_kept`).
use Rattle.intake.proofs.Parts.{nothing_kept}
use Rattle.intake.proofs.keeping.nothing.Goals as goal

pub returns : goal.returns
returns c = nothing_kept c.args.ended
