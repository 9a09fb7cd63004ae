-- The reading gives every input the one answer that document 01's rules give it.
--
-- The rules are stated in `LineRules` of lines (what a line is), `ValueRules` of kinds (what a value is), and here in
-- `GroupKeys` (the listed groups and keys), `LineOrder` (3 to 13), `GroupRules` (14 and 15) and `FileRules` (1 and 2,
-- the order, and `Answers`). Nothing of the reading is in them, so no reading by other rules can be proved here.
use Rattle.std.specs.Prelude.{ℕ, ◌≤◌, ◌≡◌, List, ◌↔◌}
use Rattle.std.proofs.Common.{sym, ◌∙◌, subst}
use Rattle.text.specs.declared.Dialect.{Dialect}
use Rattle.rules.specs.Reading.{reading}
use Rattle.rules.specs.Numbers.{number_of}
use Rattle.rules.specs.FileRules.{AcceptedFile, RefusedAtLine, RefusedAtGroup, RefusedFile, at_line, at_group, Answers}
use Rattle.rules.proofs.ReadingVerdicts.{reading_answers, answers_reading, at_its_line, at_its_group}
use Rattle.rules.specs.declared.Refusal.{Refusal}
use Rattle.rules.specs.Answering.{Reading, accepted_with, refused_at}

module _ (d : Dialect) (name file : List ℕ) where
  -- every input has an answer
  pub every_input_answered : (r : Reading) × Answers d name file r
  every_input_answered = (reading d name file, reading_answers d name file)

  -- and it has one
  pub one_answer : (r q : Reading) → Answers d name file r → Answers d name file q → r ≡ q
  one_answer r q h k = sym (answers_reading d name file r h) ∙ answers_reading d name file q k

  -- the reading gives it, and nothing else
  pub answers_exactly : (r : Reading) → Answers d name file r ↔ (reading d name file ≡ r)
  answers_exactly r = (answers_reading d name file r, λ e. subst (Answers d name file) e (reading_answers d name file))

  pub accepted_exactly : (n m : ℕ) → (reading d name file ≡ accepted_with n m) ↔ AcceptedFile d name file n m
  accepted_exactly n m = ((answers_exactly (accepted_with n m)).1, (answers_exactly (accepted_with n m)).0)

  pub refused_exactly : (r : Refusal) (n : ℕ) → (reading d name file ≡ refused_at r n) ↔ RefusedFile d name file r n
  refused_exactly r n = ((answers_exactly (refused_at r n)).1, (answers_exactly (refused_at r n)).0)

  -- the numbers 3 to 13, each exactly when its row is the first that applies, at the first faulty line
  pub line_exactly : (r : Refusal) (n : ℕ) → 3 ≤ number_of r → number_of r ≤ 13 →
      (reading d name file ≡ refused_at r n) ↔ RefusedAtLine d name file r n
  line_exactly r n low high = (
    (λ e. at_its_line d name file ((refused_exactly r n).0 e) low high),
    λ w. (refused_exactly r n).1 (at_line w),
  )

  -- 14 and 15, each exactly when it is the first that a group breaks, where no line is faulty
  pub group_exactly : (r : Refusal) (n : ℕ) → 14 ≤ number_of r →
      (reading d name file ≡ refused_at r n) ↔ RefusedAtGroup d name file r n
  group_exactly r n low = (
    (λ e. at_its_group d name file ((refused_exactly r n).0 e) low),
    λ w. (refused_exactly r n).1 (at_group w),
  )

-- whatever gives every input its answer is the reading
pub only_reading : (f : Dialect → List ℕ → List ℕ → Reading) →
    ((d : Dialect) (name file : List ℕ) → Answers d name file (f d name file)) →
    (d : Dialect) (name file : List ℕ) → f d name file ≡ reading d name file
only_reading f h d name file = sym (answers_reading d name file (f d name file) (h d name file))
