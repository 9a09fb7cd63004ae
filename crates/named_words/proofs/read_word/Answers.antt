-- The list, by cases.
use borrow.Author.Rules.{rules}
use Rattle.named_words.proofs.read_word.Goals as goal

pub returns-in-ServiceType : goal.returns-in-ServiceType
returns-in-ServiceType c = rw c.in-ServiceType.is c.read_type.ensures

pub returns-in-Privacy : goal.returns-in-Privacy
returns-in-Privacy c = rw c.in-Privacy.is c.read_privacy.ensures

pub returns-in-Security : goal.returns-in-Security
returns-in-Security c = rw c.in-Security.is c.read_security.ensures
