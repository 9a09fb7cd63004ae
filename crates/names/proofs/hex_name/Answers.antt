-- Each test that the hex fails refuses the name; hex that passes them all is decoded, and gives the name.
use Rattle.names.proofs.Naming.{hex_long, hex_other, hex_odd, decoded, decoded_fits, hex_plain, hex_good}
use borrow.Author.Rules.{rules}
use Rattle.std.proofs.Common.{ap, not}
use Rattle.names.proofs.hex_name.Goals as goal

pub returns-then-h-gt64 : goal.returns-then-h-gt64
returns-then-h-gt64 c = search hex_long

pub returns-then-not-all_of : goal.returns-then-not-all_of
returns-then-not-all_of c = search hex_other

pub returns-then-not-is_hex : goal.returns-then-not-is_hex
returns-then-not-is_hex c = search hex_odd

pub unhexed-requires : goal.unhexed-requires
unhexed-requires c = (search rules, decoded_fits (decoded c.args.h.now c.all_of.ensures (ap not c.if-not-all_of.false) c.is_hex.ensures (ap not c.if-not-is_hex.false)) (search rules))

pub returns-then-all_of : goal.returns-then-all_of
returns-then-all_of c = search (hex_plain (decoded c.args.h.now c.all_of.ensures (ap not c.if-not-all_of.false) c.is_hex.ensures (ap not c.if-not-is_hex.false)))

pub returns : goal.returns
returns c = search (hex_good (decoded c.args.h.now c.all_of.ensures (ap not c.if-not-all_of.false) c.is_hex.ensures (ap not c.if-not-is_hex.false)))
