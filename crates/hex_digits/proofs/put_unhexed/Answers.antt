-- The bytes of the first n pairs stand in front of out, and the rest is due (`Unhexing`); every pair is one of digits, since s is read whole.
use mathlib.Core.Path.{◌≡◌}
use Prim.Native.Nat.{◌/◌}
use native.Mathlib.Omega.{arith}
use lib.ListN.{length}
use Rattle.put.proofs.Filling.{filling_first}
use Rattle.hex_digits.proofs.Loops.{unhexing_byte, unhexing_room, unhexing_turn, unhexing_end}
use Rattle.hex_digits.proofs.put_unhexed.Goals as goal

pub loop-n-init : goal.loop-n-init
loop-n-init c = record { fill = filling_first _ _ c.requires }

pub bounds-out-n : goal.bounds-out-n
bounds-out-n c = unhexing_room c.loop-n.invariant c.loop-n-test.true (unhexing_byte c.loop-n.invariant c.loop-n-test.true _ _ c.digit_value.ensures c.digit_value-in-loop-n.ensures)

pub loop-n-preserved : goal.loop-n-preserved
loop-n-preserved c =
    rw (c.unwrap_or-sixteens.ensures, c.unwrap_or-ones.ensures)
    (unhexing_turn c.loop-n.invariant c.loop-n-test.true (unhexing_byte c.loop-n.invariant c.loop-n-test.true _ _ c.digit_value.ensures c.digit_value-in-loop-n.ensures))

pub returns : goal.returns
returns c = let e : c.loop-n.n ≡ length c.args.s.now / 2 = omega arith in rw (← e) (unhexing_end c.loop-n.invariant e)
