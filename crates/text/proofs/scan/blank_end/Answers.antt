use Rattle.text.specs.Bytes.{is_blank}
use borrow.Author.Rules.{rules}
use Rattle.text.proofs.scan.blank_end.Goals as goal

pub returns : goal.returns
returns c = c.end_of.ensures is_blank (λ x r l e. search rules)
