-- An address up to a slash, its length up to the next, and a gateway up to the end: one law of proofs/Statics for each return.
use Rattle.std.proofs.Common.{sym}
use Rattle.connman_ipv4.proofs.Statics.{parts_unread, parts_alone, parts_before, parts_apart, parts_unsized, parts_static, parts_unrouted, parts_followed, parts_routed}
use Rattle.connman_ipv4.proofs.read_parts.Goals as goal

pub returns-in_err-slash : goal.returns-in_err-slash
returns-in_err-slash c = rw (c.from_residual.ensures, parts_unread _ c.in_err-slash.ensures)

pub returns-then-slash-s : goal.returns-then-slash-s
returns-then-slash-s c = rw (parts_alone c.in_ok-slash.ensures c.if-slash-s.true)

pub bounds-s-slash : goal.bounds-s-slash
bounds-s-slash c = parts_before c.in_ok-slash.ensures c.if-slash-s.false

pub returns-then-s-slash-ne47 : goal.returns-then-s-slash-ne47
returns-then-s-slash-ne47 c = rw (parts_apart c.in_ok-slash.ensures c.if-slash-s.false c.if-s-slash-ne47.true)

pub returns-in_err-length : goal.returns-in_err-length
returns-in_err-length c = rw (c.from_residual-in_err-length.ensures, parts_unsized c.in_ok-slash.ensures c.if-slash-s.false c.if-s-slash-ne47.false c.find_near-e.ensures (sym c.in_err-length.ensures))

pub returns-then-e-s : goal.returns-then-e-s
returns-then-e-s c = rw (c.numbered.ensures, parts_static c.in_ok-slash.ensures c.if-slash-s.false c.if-s-slash-ne47.false c.find_near-e.ensures (sym c.in_ok-length.ensures) c.if-e-s.true)

pub returns-in_err-g : goal.returns-in_err-g
returns-in_err-g c = rw (c.from_residual-in_err-g.ensures, parts_unrouted c.in_ok-slash.ensures c.if-slash-s.false c.if-s-slash-ne47.false c.find_near-e.ensures (sym c.in_ok-length.ensures) c.if-e-s.false c.in_err-g.ensures)

pub returns-then-g-s : goal.returns-then-g-s
returns-then-g-s c = rw (parts_followed c.in_ok-slash.ensures c.if-slash-s.false c.if-s-slash-ne47.false c.find_near-e.ensures (sym c.in_ok-length.ensures) c.if-e-s.false c.in_ok-g.ensures c.if-g-s.true)

pub returns : goal.returns
returns c = rw (c.numbered-2.ensures, parts_routed c.in_ok-slash.ensures c.if-slash-s.false c.if-s-slash-ne47.false c.find_near-e.ensures (sym c.in_ok-length.ensures) c.if-e-s.false c.in_ok-g.ensures c.if-g-s.false)
