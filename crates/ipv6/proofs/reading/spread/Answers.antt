-- The two sides with zeros between them: the back is written over the zeros behind the front (`spread_whole`).
use Rattle.std.proofs.Common.{◌-◌, subst}
use Rattle.put.specs.Put.{Wrote}
use Rattle.ipv6.proofs.Spreading.{spread_whole}
use Rattle.ipv6.proofs.reading.spread.Goals as goal

pub returns : goal.returns
returns c = spread_whole c.requires.0 c.requires.1 c.if-front-back-gt14.false (subst (λ t. Wrote t (16 - c.args.back.len) c.args.front.bytes c.put_text.new.out c.put_text.result) c.text.ensures c.put_text.ensures)
