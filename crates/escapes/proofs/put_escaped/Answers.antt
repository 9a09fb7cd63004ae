-- What is written stands at the place, and the rest is due (`Putting`); there is room for a byte that has a letter and for one that has none.
use mathlib.Core.List.{[]}
use mathlib.Core.Path.{refl}
use native.Mathlib.Omega.{arith}
use lib.ListN.{length-set}
use Rattle.put.specs.Laws.{wrote_none}
use Rattle.escapes.proofs.Loops.{one_room, two_room, putting_one, putting_two, putting_end}
use borrow.Author.Rules.{rules}
use Rattle.escapes.proofs.put_escaped.Goals.{in-None, in-Some}
use Rattle.escapes.proofs.put_escaped.Goals as goal

pub loop-i-init : goal.loop-i-init
loop-i-init c = record { within = search rules; done = []; wrote = wrote_none _ _ (search rules); rest = refl; room = c.requires }

pub bounds-out-p : goal.bounds-out-p
bounds-out-p c = omega (arith, one_room c.loop-i.invariant c.loop-i-test.true c.letter.ensures c.in-None.is)

pub bounds-out-p-in-Some : goal.bounds-out-p-in-Some
bounds-out-p-in-Some c = omega (arith, two_room c.loop-i.invariant c.loop-i-test.true c.letter.ensures c.in-Some.is)

pub bounds-out-p-in-Some-2 : goal.bounds-out-p-in-Some-2
bounds-out-p-in-Some-2 c = simp length-set (omega (arith, two_room c.loop-i.invariant c.loop-i-test.true c.letter.ensures c.in-Some.is))

pub loop-i-preserved : goal.loop-i-preserved
loop-i-preserved c =
    elim c.match-letter.branch [
      | in-None w ↦ rw (w.out-is, w.p-is) (putting_one c.loop-i.invariant c.loop-i-test.true c.letter.ensures w.in-None.is)
      | in-Some w ↦ rw (w.out-is, w.p-is) (putting_two c.loop-i.invariant c.loop-i-test.true c.letter.ensures w.in-Some.is)
    ]

pub returns : goal.returns
returns c = search putting_end
