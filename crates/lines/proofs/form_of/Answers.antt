-- A line by its first byte that is no blank.
use Rattle.lines.proofs.FormSteps.{line_blank, line_comment, line_bracket, line_setting}
use borrow.Author.Rules.{rules}
use Rattle.lines.proofs.form_of.Goals as goal

pub returns-then-at-line : goal.returns-then-at-line
returns-then-at-line c = line_blank _ c.blank_end-at.ensures c.if-at-line.true

pub returns-in-35 : goal.returns-in-35
returns-in-35 c = line_comment _ c.blank_end-at.ensures c.if-at-line.false c.in-35.is

pub returns-in-91 : goal.returns-in-91
returns-in-91 c = line_bracket _ c.blank_end-at.ensures c.if-at-line.false (search rules) c.in-91.is c.header_form.ensures

pub returns-in_default : goal.returns-in_default
returns-in_default c = line_setting _ c.blank_end-at.ensures c.if-at-line.false (search rules) (search rules) c.setting_form.ensures
