-- The front, the address, `/`, the length and the end of the line are written in turn (`then`).
use Rattle.put.specs.Laws.{then}
use Rattle.rendering.proofs.rows.put_ipv6_address.Goals as goal

pub returns : goal.returns
returns c = then (then (then c.put_text-p.ensures c.put_address-q.ensures) (then c.put_byte-r.ensures c.put_decimal-s.ensures)) c.put_byte.ensures
