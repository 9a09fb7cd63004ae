-- Yes or no by comparison with each word.
use mathlib.Core.Path.{sym, ◌∙◌}
use Rattle.named_words.specs.NamedWords.{flag}
use borrow.Author.Rules.{rules}
use Rattle.named_words.proofs.read_flag.Goals as goal

pub returns-then-equal : goal.returns-then-equal
unfolding flag
returns-then-equal c = rw (sym c.equal.ensures ∙ c.if-equal.true)

pub returns-then-equal-2 : goal.returns-then-equal-2
unfolding flag
returns-then-equal-2 c = rw (sym c.equal.ensures ∙ c.if-equal.false, sym c.equal-2.ensures ∙ c.if-equal-2.true)

pub returns-then-equal-3 : goal.returns-then-equal-3
unfolding flag
returns-then-equal-3 c = rw (sym c.equal.ensures ∙ c.if-equal.false, sym c.equal-2.ensures ∙ c.if-equal-2.false, c.in-Iwd.is, sym c.equal-in-Iwd.ensures ∙ c.if-equal-3.true)

pub returns-then-equal-4 : goal.returns-then-equal-4
unfolding flag
returns-then-equal-4 c = rw (sym c.equal.ensures ∙ c.if-equal.false, sym c.equal-2.ensures ∙ c.if-equal-2.false, c.in-Iwd.is, sym c.equal-in-Iwd.ensures ∙ c.if-equal-3.false, sym c.equal-in-Iwd-2.ensures ∙ c.if-equal-4.true)

pub returns-in-ConnMan : goal.returns-in-ConnMan
unfolding flag
returns-in-ConnMan c = rw (sym c.equal.ensures ∙ c.if-equal.false, sym c.equal-2.ensures ∙ c.if-equal-2.false, c.in-ConnMan.is)

pub returns-else-equal-4 : goal.returns-else-equal-4
unfolding flag
returns-else-equal-4 c = rw (sym c.equal.ensures ∙ c.if-equal.false, sym c.equal-2.ensures ∙ c.if-equal-2.false, c.in-Iwd.is, sym c.equal-in-Iwd.ensures ∙ c.if-equal-3.false, sym c.equal-in-Iwd-2.ensures ∙ c.if-equal-4.false)
