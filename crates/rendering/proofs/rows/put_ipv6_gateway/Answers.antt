-- The line is written where the gateway is given (`gateway_text`), and nothing where it is not.
use Rattle.put.specs.Laws.{then}
use Rattle.ipv6.specs.Ipv6.{canonical}
use Rattle.rendering.proofs.RowTexts.{gateway_text}
use Rattle.rendering.proofs.rows.put_ipv6_gateway.Goals as goal

pub returns-then-i : goal.returns-then-i
returns-then-i c = rw (gateway_text canonical c.args.i.gateway c.if-i.true) (then (then c.put_text-p.ensures c.put_address-q.ensures) c.put_byte.ensures)
