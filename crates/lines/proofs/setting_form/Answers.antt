-- A setting, by the laws of `FormSteps`, one for each return.
use Rattle.lines.proofs.FormSteps.{setting_end, setting_empty, setting_open, setting_good}
use Rattle.lines.proofs.setting_form.Goals as goal
use Rattle.lines.proofs.setting_form.Goals.{then-equal-line-via-then-equal-line, then-equal-line-via-else-equal-line+then-key_end-at, then-equal-line-via-else-equal-line+else-key_end-at+then-line-equal-ne61}

pub returns-then-equal-line : goal.returns-then-equal-line
returns-then-equal-line c =
    elim c.then-equal-line.branch [
      | then-equal-line-via-then-equal-line w ↦ setting_end _ c.key_end-key_end.ensures c.blank_end-equal.ensures w.if-equal-line.true
      | then-equal-line-via-else-equal-line+then-key_end-at w ↦ setting_empty _ c.key_end-key_end.ensures c.blank_end-equal.ensures w.if-equal-line.false w.if-key_end-at.true
      | then-equal-line-via-else-equal-line+else-key_end-at+then-line-equal-ne61 w ↦ setting_open _ c.key_end-key_end.ensures c.blank_end-equal.ensures w.if-equal-line.false w.if-key_end-at.false w.if-line-equal-ne61.true
    ]

pub returns : goal.returns
returns c = setting_good _ c.key_end-key_end.ensures c.blank_end-equal.ensures c.if-equal-line.false c.if-key_end-at.false c.if-line-equal-ne61.false c.blank_end-start.ensures c.value_end-end.ensures
