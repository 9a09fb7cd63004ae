-- Free text by its text first, any other value by its kind first.
use Rattle.std.specs.Prelude.{Err}
use Rattle.std.proofs.Common.{ap, sym, ◌∙◌}
use Rattle.kinds.specs.Typed.{judged}
use Rattle.kinds.proofs.KindFirst.{broken_judged, text_judged, good_judged, broken_text_judged}
use borrow.Author.Rules.{rules}
use Rattle.kinds.proofs.judging.judge.Goals as goal
use Rattle.kinds.proofs.judging.judge.Goals.{else-is_free_text-via-then-is_free_text+else-not-is_value_text, else-is_free_text-via-else-is_free_text}

pub returns-then-not-is_value_text : goal.returns-then-not-is_value_text
unfolding judged
returns-then-not-is_value_text c = rw (sym c.is_value_text.ensures ∙ c.if-not-is_value_text.true)

pub returns-in-Ok : goal.returns-in-Ok
returns-in-Ok c =
    elim c.else-is_free_text.branch [
      | else-is_free_text-via-then-is_free_text+else-not-is_value_text w ↦
          text_judged _ _ _ _ c.judge_kind.ensures (sym w.is_value_text.ensures ∙ w.if-not-is_value_text.false) c.in-Ok.is
      | else-is_free_text-via-else-is_free_text w ↦
          good_judged _ _ _ _ c.judge_kind.ensures (sym c.is_free_text.ensures ∙ w.if-is_free_text.false) c.in-Ok.is
    ]

pub returns-in-Err-Text : goal.returns-in-Err-Text
returns-in-Err-Text c =
    elim c.else-is_free_text.branch [
      | else-is_free_text-via-then-is_free_text+else-not-is_value_text w ↦
          text_judged _ _ _ _ c.judge_kind.ensures (sym w.is_value_text.ensures ∙ w.if-not-is_value_text.false) (c.in-Err-Text.is ∙ ap Err c.in-Err-Text.field-0-is)
      | else-is_free_text-via-else-is_free_text w ↦
          broken_text_judged _ _ _ _ c.judge_kind.ensures (sym c.is_free_text.ensures ∙ w.if-is_free_text.false) (c.in-Err-Text.is ∙ ap Err c.in-Err-Text.field-0-is)
    ]

pub returns-in-Err-Kind : goal.returns-in-Err-Kind
returns-in-Err-Kind c = broken_judged _ _ _ _ c.judge_kind.ensures (c.in-Err-Kind.is ∙ ap Err c.in-Err-Kind.field-0-is) c.broken.ensures
