use Rattle.text.specs.Bytes.{other}
use borrow.Author.Rules.{rules}
use Rattle.text.proofs.scan.find_near.Goals as goal

pub returns : goal.returns
returns c = c.end_of.ensures (other c.args.b) (λ x r l e. search rules)
