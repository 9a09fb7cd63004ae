-- The type, the security, or nothing.
use mathlib.Core.Path.{sym, ◌∙◌}
use borrow.Author.Rules.{rules}
use Rattle.joins.proofs.parts.hindrance_at.Goals as goal

pub returns-then-is_word : goal.returns-then-is_word
returns-then-is_word c = rw (sym c.is_word.ensures ∙ c.if-is_word.true, c.line_of.ensures)

pub returns-then-is_foreign : goal.returns-then-is_foreign
returns-then-is_foreign c = rw (sym c.is_word.ensures ∙ c.if-is_word.false, sym c.is_foreign.ensures ∙ c.if-is_foreign.true, c.line_of-then-is_foreign.ensures)

pub returns : goal.returns
returns c = rw (sym c.is_word.ensures ∙ c.if-is_word.false, sym c.is_foreign.ensures ∙ c.if-is_foreign.false)
