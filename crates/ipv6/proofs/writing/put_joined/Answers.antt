-- None, or the first group and the others behind it (`joined_whole`).
use Rattle.ipv6.proofs.Putting.{joined_whole}
use Rattle.ipv6.proofs.writing.put_joined.Goals as goal

pub returns : goal.returns
returns c = joined_whole c.args.gs.now c.if-gs-eq0.false c.put_group-p.ensures c.put_rest.ensures
