use Rattle.text.specs.Bytes.{member_of}
use borrow.Author.Rules.{rules}
use Rattle.text.proofs.scan.compared_end.Goals as goal

pub returns : goal.returns
returns c = c.end_of.ensures (member_of c.args.c) (λ x r l e. search rules)
