-- A side that ends in a dotted piece: its four bytes behind those that are read (`end_whole`).
use Rattle.std.proofs.Common.{sym}
use Rattle.ipv6.proofs.Siding.{end_full, end_whole}
use Rattle.ipv6.proofs.reading.end_dotted.Goals as goal

pub returns-then-front-gt12 : goal.returns-then-front-gt12
returns-then-front-gt12 c = end_full _ _ c.requires c.if-front-gt12.true

pub returns : goal.returns
returns c = end_whole _ _ c.requires c.if-not-dotted.false (sym c.in_ok-tail.ensures) c.put_text.ensures
