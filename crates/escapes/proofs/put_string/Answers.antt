-- What is unescaped stands in front of out, and the rest is due (`Unescaping`), behind a backslash or not.
use mathlib.Core.Path.{sym, ◌∙◌}
use Rattle.escapes.proofs.Loops.{unescaping_first, unescaping_some, unescaping_room, unescaping_room_meant, unescaping_meant, unescaping_open, unescaping_byte, unescaping_end}
use Rattle.escapes.proofs.put_string.Goals.{then-after, else-after+then-b-eq92, else-after+else-b-eq92}
use Rattle.escapes.proofs.put_string.Goals as goal

pub loop-b-init : goal.loop-b-init
loop-b-init c = unescaping_first _ _ c.requires

pub unwrap-requires : goal.unwrap-requires
unwrap-requires c = unescaping_some c.loop-b.invariant c.loop-b-test.true c.if-after.true c.stands_for.result c.stands_for.ensures

pub bounds-out-n : goal.bounds-out-n
bounds-out-n c = unescaping_room_meant c.loop-b.invariant c.loop-b-test.true c.if-after.true (sym c.unwrap.ensures ∙ c.stands_for.ensures)

pub bounds-out-n-else-b-eq92 : goal.bounds-out-n-else-b-eq92
bounds-out-n-else-b-eq92 c = search unescaping_room

pub loop-b-preserved : goal.loop-b-preserved
loop-b-preserved c =
    elim c.if-after.branch [
      | then-after w ↦ rw (w.out-is, w.after-is, w.n-is) (unescaping_meant c.loop-b.invariant c.loop-b-test.true w.if-after.true (sym w.unwrap.ensures ∙ w.stands_for.ensures))
      | else-after+then-b-eq92 w ↦ rw (w.out-is, w.after-is, w.n-is) (unescaping_open c.loop-b.invariant c.loop-b-test.true w.if-after.false w.if-b-eq92.true)
      | else-after+else-b-eq92 w ↦ rw (w.out-is, w.after-is, w.n-is) (unescaping_byte c.loop-b.invariant c.loop-b-test.true w.if-after.false w.if-b-eq92.false)
    ]

pub returns : goal.returns
returns c = search unescaping_end
