-- A header, by the laws of `FormSteps`, one for each return.
use Rattle.lines.proofs.FormSteps.{header_extension, header_open, header_empty, header_other, header_rest, header_good}
use Rattle.lines.proofs.header_form.Goals as goal
use Rattle.lines.proofs.header_form.Goals.{then-end-line-via-then-end-line, then-end-line-via-else-end-line+then-end-from, then-end-line-via-else-end-line+else-end-from+then-line-end-ne93}

pub returns-then-is_extension : goal.returns-then-is_extension
returns-then-is_extension c = header_extension _ c.is_extension.ensures c.if-is_extension.true

pub returns-then-end-line : goal.returns-then-end-line
returns-then-end-line c =
    elim c.then-end-line.branch [
      | then-end-line-via-then-end-line w ↦ header_open _ c.is_extension.ensures c.if-is_extension.false c.run_end-end.ensures w.if-end-line.true
      | then-end-line-via-else-end-line+then-end-from w ↦ header_empty _ c.is_extension.ensures c.if-is_extension.false c.run_end-end.ensures w.if-end-from.true
      | then-end-line-via-else-end-line+else-end-from+then-line-end-ne93 w ↦ header_other _ c.is_extension.ensures c.if-is_extension.false c.run_end-end.ensures w.if-end-line.false w.if-line-end-ne93.true
    ]

pub returns-then-rest-line : goal.returns-then-rest-line
returns-then-rest-line c = header_rest _ c.is_extension.ensures c.if-is_extension.false c.run_end-end.ensures c.if-end-line.false c.if-line-end-ne93.false c.blank_end-rest.ensures c.if-rest-line.true

pub returns : goal.returns
returns c = header_good _ c.is_extension.ensures c.if-is_extension.false c.run_end-end.ensures c.if-end-line.false c.if-line-end-ne93.false c.blank_end-rest.ensures c.if-end-from.false c.if-rest-line.false
