-- A byte, or two: the high one without leading zeros and the low one in two digits (`group_text_high`).
use Prim.Native.Nat.{◌/◌, ◌<◌}
use Rattle.put.specs.Laws.{then, room_first, room_then}
use Rattle.ipv6.specs.Ipv6.{group_digits}
use Rattle.ipv6.specs.GroupTexts.{group_text_high}
use borrow.Author.Rules.{rules}
use Rattle.ipv6.proofs.writing.put_group.Goals as goal

pub put_byte-p-requires : goal.put_byte-p-requires
put_byte-p-requires c = let k : c.args.v < 65536 = search rules in room_first (group_digits (c.args.v / 256)) _ _ (rw (group_text_high c.args.v c.if-v-lt256.false k) at c.requires)

pub put_two-requires : goal.put_two-requires
put_two-requires c = let k : c.args.v < 65536 = search rules in room_then c.put_byte-p.ensures _ (rw (group_text_high c.args.v c.if-v-lt256.false k) at c.requires)

pub returns : goal.returns
returns c = let k : c.args.v < 65536 = search rules in rw (group_text_high c.args.v c.if-v-lt256.false k) (then c.put_byte-p.ensures c.put_two.ensures)
