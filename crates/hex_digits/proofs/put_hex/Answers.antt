-- Pairs are written for the bytes so far, and the rest of the hex is due (`Hexing`); two bytes of room are left at each turn.
use mathlib.Core.List.{[]}
use mathlib.Core.Path.{refl}
use native.Mathlib.Omega.{arith}
use lib.ListN.{length-set}
use Rattle.put.specs.Laws.{wrote_none}
use Rattle.hex_digits.proofs.Loops.{hexing_room, hexing_turn, hexing_end}
use borrow.Author.Rules.{rules}
use Rattle.hex_digits.proofs.put_hex.Goals as goal

pub loop-b-init : goal.loop-b-init
loop-b-init c = record { within = search rules; done = []; wrote = wrote_none _ _ (search rules); rest = refl; room = c.requires }

pub bounds-out-p : goal.bounds-out-p
bounds-out-p c = omega (arith, hexing_room c.loop-b.invariant (search rules))

pub bounds-out-p-in-loop-b : goal.bounds-out-p-in-loop-b
bounds-out-p-in-loop-b c = simp length-set (omega (arith, hexing_room c.loop-b.invariant (search rules)))

pub loop-b-preserved : goal.loop-b-preserved
loop-b-preserved c = search hexing_turn

pub returns : goal.returns
returns c = search hexing_end
