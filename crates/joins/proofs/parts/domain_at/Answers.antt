-- The string that the key gives, or no bytes.
use Rattle.std.proofs.Common.{◌∙◌}
use Rattle.kinds.specs.Kinds.{string}
use Rattle.joins.proofs.Choosing.{text_or_none}
use borrow.Author.Rules.{rules}
use Rattle.joins.proofs.parts.domain_at.Goals as goal

pub returns : goal.returns
unfolding string
returns c = c.unwrap_or.ensures ∙ rw (c.read_string.ensures, c.value_of.ensures, c.none.ensures) (text_or_none 253 _)
