-- The bytes of the groups of a side: the loop reads them one after another (`Siding`).
use Rattle.std.proofs.Common.{◌≡◌, ◌+◌, ◌*◌, arith}
use Rattle.ipv6.proofs.Siding.{side_empty, siding_first, siding_full, siding_broken, siding_dotted, siding_turn, siding_whole}
use Rattle.ipv6.proofs.reading.read_side.Goals as goal

pub returns-then-s-eq0 : goal.returns-then-s-eq0
returns-then-s-eq0 c = side_empty _ _ c.if-s-eq0.true

pub loop-i-init : goal.loop-i-init
loop-i-init c = siding_first _ _ c.if-s-eq0.false

pub returns-then-end-s : goal.returns-then-end-s
returns-then-end-s c = siding_dotted c.loop-i.invariant c.read_group-end.ensures c.in_default.is c.if-end-s.true (c.end_dotted.ensures)

pub returns-in_default : goal.returns-in_default
returns-in_default c = siding_broken c.loop-i.invariant c.read_group-end.ensures c.in_default.is c.if-end-s.false

pub returns-then-end-s-2 : goal.returns-then-end-s-2
returns-then-end-s-2 c = siding_whole c.loop-i.invariant c.read_group-end.ensures c.in-Some.is (omega arith) c.if-end-s-2.true

pub loop-i-preserved : goal.loop-i-preserved
loop-i-preserved c = let k : 2 * (c.loop-i.i + 1) ≡ 2 * c.loop-i.i + 2 = omega arith in rw k (siding_turn c.loop-i.invariant c.read_group-end.ensures c.in-Some.is (omega arith) c.if-end-s-2.false)

pub returns : goal.returns
returns c = siding_full c.loop-i.invariant (omega arith)
