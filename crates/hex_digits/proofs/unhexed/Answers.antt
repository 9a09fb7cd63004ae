-- What is written over N zeros is the text with zeros behind it (`padded_by`).
use Rattle.put.proofs.Filling.{padded_by}
use Rattle.hex_digits.proofs.unhexed.Goals as goal

pub returns : goal.returns
returns g c = padded_by g.row.N c.put_unhexed.ensures
