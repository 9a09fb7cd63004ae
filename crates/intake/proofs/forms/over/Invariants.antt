-- What is left of the slice goes over the form so far.
use Rattle.std.proofs.Common.{◌≡◌, drop}
use Rattle.intake.specs.Forms.{form_from}
use Rattle.intake.proofs.forms.over.Given as goal

abbrev pub invariant-loop-b : goal.invariant-loop-b
invariant-loop-b l = form_from l.form (drop l.b-index l.s) ≡ form_from l.initial.form l.s
