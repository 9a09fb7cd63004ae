-- The front, the value and the end of the line are written in turn (`then`).
use Rattle.put.specs.Laws.{then}
use Rattle.rendering.proofs.rows.put_string.Goals as goal

pub returns : goal.returns
returns c = then (then c.put_text-p.ensures c.put_escaped-q.ensures) c.put_byte.ensures
