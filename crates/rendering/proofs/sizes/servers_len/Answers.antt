-- By whether there are name servers.
use native.Mathlib.Omega.{arith}
use lib.ListN.{take}
use lib.Seq.{length-take-le}
use Rattle.addresses.specs.Sizes.{listed_short}
use Rattle.addresses.specs.declared.Separator.TheVariants.{Spaces}
use borrow.Author.Rules.{rules}
use Rattle.rendering.proofs.sizes.servers_len.Goals as goal

pub overflow_add-result : goal.overflow_add-result
overflow_add-result c = omega (arith, listed_short Spaces (take c.args.count c.args.list), length-take-le c.args.count c.args.list (search rules), c.requires, c.addresses_len.ensures)
