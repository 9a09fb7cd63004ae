-- What is kept answers for the whole input (`answer_short`, `answer_long`).
use Rattle.qewaris_check.proofs.Answering.{answer_short, answer_long}
use borrow.Author.Rules.{rules}
use Rattle.qewaris_check.proofs.check_kept.Goals as goal

pub returns-then-k-eq129 : goal.returns-then-k-eq129
returns-then-k-eq129 c = λ i h. answer_long i h (search rules) (search rules) (search rules) c.check_long.ensures

pub returns : goal.returns
returns c = λ i h. answer_short i h (search rules) (search rules) c.check_name.ensures
