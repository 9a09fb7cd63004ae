-- The length of a plain stem and of one in hex, each with its suffix.
use mathlib.Core.Path.{ap}
use lib.ListN.{length}
use native.Mathlib.Omega.{arith}
use Rattle.names.specs.Laws.{suffix_short}
use Rattle.names.proofs.Naming.{length_plain, length_hex}
use Rattle.names.proofs.iwd_name_len.Goals as goal

pub overflow_add-result : goal.overflow_add-result
overflow_add-result c = omega (arith, suffix_short c.args.suffix)

pub returns-then-all_of : goal.returns-then-all_of
returns-then-all_of c = length_plain _ c.all_of.ensures c.args.suffix (ap length c.text-behind.ensures) c.if-all_of.true

pub overflow_add-result-2 : goal.overflow_add-result-2
overflow_add-result-2 c = omega (arith, suffix_short c.args.suffix)

pub overflow_add-result-3 : goal.overflow_add-result-3
overflow_add-result-3 c = omega (arith, suffix_short c.args.suffix)

pub returns : goal.returns
returns c = length_hex _ c.all_of.ensures c.args.suffix (ap length c.text-behind.ensures) c.if-all_of.false
