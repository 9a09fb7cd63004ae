-- A list of addresses: the first, and then the others in a loop, each behind a separator (`Laying`).
use Rattle.addresses.proofs.Putting.{first_room, laying_first, laying_room, laying_turn, laying_end}
use Rattle.std.proofs.Common.{◌≡◌, length, arith, rules}
use Rattle.addresses.proofs.writing.put_addresses.Goals as goal

pub put_address-end-requires : goal.put_address-end-requires
put_address-end-requires c = let h : length c.args.list ≡ 4 = search rules in first_room c.args.sep c.args.list c.args.count c.requires.0 (omega arith) _ _ c.requires.2

pub loop-a-init : goal.loop-a-init
loop-a-init c = let h : length c.args.list ≡ 4 = search rules in laying_first c.args.sep c.args.list c.args.count c.requires.0 (omega arith) c.requires.2 c.put_address-end.ensures

pub put_behind-end-requires : goal.put_behind-end-requires
put_behind-end-requires c = laying_room c.loop-a.invariant c.loop-a-test.true

pub loop-a-preserved : goal.loop-a-preserved
loop-a-preserved c = laying_turn c.loop-a.invariant c.loop-a-test.true c.put_behind-end.ensures

pub returns : goal.returns
returns c = let h : length c.args.list ≡ 4 = search rules in laying_end c.args.sep c.args.list c.args.count c.requires.0 (omega arith) c.loop-a.invariant c.loop-a-test.false c.put_address-end.ensures
