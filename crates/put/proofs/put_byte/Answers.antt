use Rattle.put.specs.Laws.{wrote_byte}
use Rattle.put.proofs.put_byte.Goals as goal

pub returns : goal.returns
returns c = wrote_byte _ _ _ c.requires
