-- Why the kept part of the input is enough for a move.
use Rattle.std.specs.Prelude.{ℕ, ◌<◌, ◌≡◌, refl, Bool, true, false, List, [], leb, length, take}
use Rattle.std.proofs.Math.Path.{ap}
use Rattle.std.proofs.Common.{sym, ◌∙◌, arith, leb-true, leb-false, length-take, take_all}
use Rattle.text.specs.Words.{word}
use Rattle.text.specs.declared.Dialect.TheVariants.{ConnMan}
use Rattle.rules.specs.Reading.{reading}
use Rattle.rules.specs.Asking.{asked_of}
use Rattle.rules.specs.declared.Refusal.TheVariants.{Size}
use Rattle.writer.specs.Writing.{refuses}
use Rattle.joins.specs.Joins.{service_setting}
use Rattle.mover.specs.Moves.{moving, moving_of, moved_if_good}
use Rattle.intake.specs.declared.Form.TheVariants.{Empty}
use Rattle.intake.specs.Forms.{form_from, complete}
use Rattle.intake.specs.Laws.{form_connman}
use Rattle.rules.proofs.Acceptance.{reading_large}
use Rattle.intake.specs.Enough.{reading_name}
use Rattle.rules.specs.Answering.{Reading}

module _ (w : ℕ) (n f : List ℕ) where
  -- a name counts only by the reading
  moving_name : (a b file : List ℕ) → reading ConnMan a file ≡ reading ConnMan b file →
      moving a file w n f ≡ moving b file w n f
  unfolding moving
  moving_name a b file e = ap (λ (r : Reading). moved_if_good (asked_of w r) (moving_of (service_setting w file) n f)) e

  moving_large : (name file : List ℕ) → 16384 < length file → moving name file w n f ≡ refuses Size 0
  unfolding moving
  moving_large name file h = ap (λ (r : Reading). moved_if_good (asked_of w r) (moving_of (service_setting w file) n f)) (reading_large ConnMan name file h)

  -- 16,385 bytes of a file already earn 1, whatever follows
  pub moving_front : (name file : List ℕ) (m : ℕ) → 16384 < m → moving name (take m file) w n f ≡ moving name file w n f
  moving_front name file m h = go (leb (length file) m) refl
    where
      go : (b : Bool) → leb (length file) m ≡ b → moving name (take m file) w n f ≡ moving name file w n f
      go true e = ap (λ (t : List ℕ). moving name t w n f) (take_all m file (leb-true (length file) m e))
      go false e =
          let k : m < length file = leb-false (length file) m e in
          moving_large name (take m file) (omega (arith, length-take m file)) ∙ sym (moving_large name file (omega arith))

  -- every complete name counts as one, and any other as none
  pub moving_complete : (line file : List ℕ) → complete (form_from Empty line) ≡ true →
      moving (word "a.config") file w n f ≡ moving line file w n f
  moving_complete line file e = moving_name (word "a.config") line file (reading_name ConnMan (word "a.config") line file (rw (sym (form_connman line) ∙ e)))

  pub moving_incomplete : (line file : List ℕ) → complete (form_from Empty line) ≡ false →
      moving [] file w n f ≡ moving line file w n f
  moving_incomplete line file e = moving_name [] line file (reading_name ConnMan [] line file (rw (sym (form_connman line) ∙ e)))
