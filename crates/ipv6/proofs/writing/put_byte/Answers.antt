-- One digit or two (`group_text_one`, `group_text_two`).
use mathlib.Core.Path.{ap}
use Prim.Native.Nat.{◌<◌}
use native.Mathlib.Omega.{arith}
use lib.ListN.{length}
use Rattle.ipv6.specs.GroupTexts.{group_text_one, group_text_two}
use borrow.Author.Rules.{rules}
use Rattle.ipv6.proofs.writing.put_byte.Goals as goal

pub put_byte-requires : goal.put_byte-requires
put_byte-requires c = omega (arith, c.requires, ap length (group_text_one c.args.b c.if-b-lt16.true))

pub returns-then-b-lt16 : goal.returns-then-b-lt16
returns-then-b-lt16 c = rw (group_text_one c.args.b c.if-b-lt16.true, ← c.hex_digit.ensures) c.put_byte.ensures

pub put_two-requires : goal.put_two-requires
put_two-requires c = let k : c.args.b < 256 = search rules in omega (arith, c.requires, ap length (group_text_two c.args.b c.if-b-lt16.false k))

pub returns : goal.returns
returns c = let k : c.args.b < 256 = search rules in rw (group_text_two c.args.b c.if-b-lt16.false k) c.put_two.ensures
