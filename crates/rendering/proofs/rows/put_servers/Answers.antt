-- The line is written where there is a name server (`servers_text`), and nothing where there is none.
use Rattle.put.specs.Laws.{then}
use Rattle.rendering.proofs.RowTexts.{servers_text}
use borrow.Author.Rules.{rules}
use Rattle.rendering.proofs.rows.put_servers.Goals as goal

pub returns : goal.returns
returns c = rw (servers_text c.args.list c.args.count c.if-count-eq0.false (search rules)) (then (then c.put_text-p.ensures c.put_addresses-q.ensures) c.put_byte.ensures)
