-- What is read is taken behind what is kept (`more_input`).
use Rattle.intake.proofs.Parts.{more_input}
use Rattle.intake.proofs.streams.read_part.Goals as goal

pub returns : goal.returns
returns g c = more_input c.requires c.take-kept.ensures
