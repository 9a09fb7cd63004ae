-- The answer to what is kept of an input is the answer to the whole input.
use mathlib.Core.Path.{◌≡◌, ap, ap₂, ◌∙◌}
use mathlib.Core.List.{List}
use Prim.Native.Nat.{ℕ, ◌<◌}
use native.Mathlib.Nat.{sub-zero}
use native.Mathlib.Omega.{arith}
use lib.ListN.{length, take, length-take}
use Rattle.text.specs.Parts.{part}
use Rattle.names.specs.Names.{name_max}
use Rattle.names.specs.Dialects.{dialect_of}
use Rattle.rules.specs.Reading.{reading}
use Rattle.intake.specs.declared.Form.{Form}
use Rattle.intake.specs.declared.NamedFile.{NamedFile}
use Rattle.intake.specs.Input.{KeepsFile}
use Rattle.intake.specs.Enough.{reading_front, parted_first, parted_behind}
use Rattle.intake.proofs.Fronts.{front_whole, front_part}
use Rattle.qewaris_check.specs.Answers.{checked_input, long_answer}
use Rattle.qewaris_check.specs.Enough.{long_answer_lem}
use Rattle.rules.specs.Answering.{Reading}

module _ (i : List ℕ) {name file : List ℕ} {k : NamedFile} (h : KeepsFile i name file k) (m : 16384 < length file) where
  kept_file : reading (dialect_of h.line) h.line (part 0 k.file file) ≡ checked_input i
  kept_file = ap (reading (dialect_of h.line) h.line) (front_part h.filed) ∙ reading_front (dialect_of h.line) h.line h.rest (length file) m ∙ ap₂ (λ (l t : List ℕ). reading (dialect_of l) l t) (parted_first k.ended h.parted) (parted_behind k.ended h.parted)

  pub answer_short : k.name < length name → {r : Reading} → r ≡ reading (dialect_of (part 0 k.name name)) (part 0 k.name name) (part 0 k.file file) → r ≡ checked_input i
  answer_short l e =
      let whole : part 0 k.name name ≡ h.line = ap (λ (j : ℕ). take j name) (sub-zero k.name) ∙ front_whole h.named l in
      e ∙ ap (λ (t : List ℕ). reading (dialect_of t) t (part 0 k.file file)) whole ∙ kept_file

  pub answer_long : name_max < length name → k.name ≡ length name → {r : Reading} → r ≡ long_answer k.form (part 0 k.file file) → r ≡ checked_input i
  answer_long l n e =
      let long : name_max < length h.line = omega (arith, n, h.named.count, length-take (length name) h.line) in
      e ∙ ap (λ (f : Form). long_answer f (part 0 k.file file)) h.formed ∙ long_answer_lem h.line (part 0 k.file file) long ∙ kept_file
