-- A line that is passed over, a header, a setting, or a refused line.
use mathlib.Core.Path.{refl, ap, ◌∙◌}
use native.Mathlib.Nat.{le_refl}
use native.Mathlib.Omega.{arith}
use Rattle.std.specs.Prelude.{Ok}
use Rattle.std.proofs.lemmas.Result.{err_from_is_err_and}
use Rattle.reader.proofs.OneLine.{current_row, header_place, step_header, step_refused, step_passed, slot_few, value_inside, fits_within, step_setting}
use Rattle.reader.proofs.steps.step.Goals as goal

pub line_at-requires : goal.line_at-requires
line_at-requires c = record { low = c.requires.low; within = c.requires.within; rows = current_row c.requires.known }

pub returns-in_err-line_at : goal.returns-in_err-line_at
returns-in_err-line_at c =
    let p = err_from_is_err_and c.from_residual.result c.from_residual.ensures.1 in
    rw (p.1, p.2) (step_refused c.line_at.ensures c.in_err-line_at.was)

pub returns-in-Blank : goal.returns-in-Blank
returns-in-Blank c = step_passed c.line_at.ensures c.in_ok-line_at.was c.in-Blank.is

pub header_step-requires : goal.header_step-requires
header_step-requires c = let i = header_place c.line_at.ensures (c.in_ok-line_at.was ∙ ap Ok c.in-Header.is) c.requires.known in record { known = c.requires.known; inside = i; counted = omega (arith, c.requires.counted); header = fits_within (le_refl _) (omega (arith, c.requires.low, c.requires.within)) c.requires.small.0 c.requires.small.1; named = fits_within i.low i.high c.requires.small.0 c.requires.small.1 }

pub returns-in-Header : goal.returns-in-Header
returns-in-Header c = step_header c.line_at.ensures (c.in_ok-line_at.was ∙ ap Ok c.in-Header.is) c.header_step.ensures

pub put_slot-requires : goal.put_slot-requires
put_slot-requires c =
    let e = c.in_ok-line_at.was ∙ ap Ok c.in-Setting.is in
    let k = slot_few c.line_at.ensures e c.requires.known in
    let i = value_inside c.line_at.ensures e c.requires.known in
    (omega (arith, k), rw c.text_place-text.ensures (fits_within i.low i.high c.requires.small.0 c.requires.small.1))

pub returns-in-Setting : goal.returns-in-Setting
returns-in-Setting c = step_setting c.line_at.ensures (c.in_ok-line_at.was ∙ ap Ok c.in-Setting.is) (omega (arith, c.requires.counted)) refl (rw (← c.value_code.ensures, ← c.text_place-text.ensures) c.put_slot.ensures)
