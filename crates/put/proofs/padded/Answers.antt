use Rattle.put.proofs.Filling.{padded_by}
use Rattle.put.proofs.padded.Goals as goal

pub returns : goal.returns
returns g c = padded_by g.row.N c.put_text.ensures
