use Rattle.text.specs.ByteTable.{chosen}
use borrow.Author.Rules.{rules}
use Rattle.text.proofs.table.masked_end.Goals as goal

pub returns : goal.returns
returns c = c.end_of.ensures (chosen c.args.mask) (λ x r l e. search rules)
