-- The Saturday, whole for a ConnMan file: one with a faulty Passphrase line is refused with the number and line of that
-- line or of one before it; settings, record and move of every service answer exactly that, with zeros for all else and
-- nothing written.
use Rattle.std.specs.Prelude.{ℕ, ◌≤◌, ◌≡◌, List}
use Rattle.std.proofs.Math.Path.{ap}
use Rattle.std.proofs.Common.{◌∙◌}
use Rattle.text.specs.declared.Dialect.TheVariants as D
use Rattle.rules.specs.Asking.{asked_of}
use Rattle.rules.specs.Reading.{reading}
use Rattle.rules.specs.declared.Refusal.{Refusal}
use Rattle.writer.specs.Writing.{Writing, refuses, written_answer, name_after, file_after, Writes}
use Rattle.writer.specs.declared.Written.{Written}
use Rattle.joins.specs.Joins.{service_setting}
use Rattle.joins.specs.Saturday.{FaultyPassphrase}
use Rattle.record_answers.specs.Refused.{ServiceRefuses, refused_service}
use Rattle.joins.specs.SaturdayHolds.{faulty_refused}
use Rattle.mover.specs.Moves.{moved_if_good, moving_of, moving}
use Rattle.rules.specs.Answering.{Reading, refused_at}

-- ---- the statement

-- a refused move: its number and line, no new bytes, and the buffers x and y as they were, n and f
pub record Unmoved (r : Refusal) (l : ℕ) (n f x y : List ℕ) (a : Written) : Type 0 where
  pub answer : a ≡ record { answer = refused_at r l; name_len = 0; file_len = 0 }
  pub name : x ≡ n
  pub file : y ≡ f

pub record MoveRefuses (name file : List ℕ) (w : ℕ) (r : Refusal) (l : ℕ) : Type 0 where
  pub moved : (n f : List ℕ) → moving name file w n f ≡ refuses r l
  pub unmoved : (n f x y : List ℕ) (a : Written) → Writes (moving name file w n f) n f x y a → Unmoved r l n f x y a

-- all that is answered of a file with a faulty Passphrase in line n
pub record ConnManRefuses (name file : List ℕ) (n : ℕ) : Type 0 where
  pub refusal : Refusal
  pub line : ℕ
  pub early : line ≤ n
  pub read : reading D.ConnMan name file ≡ refused_at refusal line
  pub service : (w : ℕ) → ServiceRefuses name file w refusal line
  pub move : (w : ℕ) → MoveRefuses name file w refusal line

-- ---- it holds

module _ (name file : List ℕ) {r : Refusal} {l : ℕ} (e : reading D.ConnMan name file ≡ refused_at r l) (w : ℕ) where
  refused_moving : (n f : List ℕ) → moving name file w n f ≡ refuses r l
  unfolding moving
  refused_moving n f = ap (λ (q : Reading). moved_if_good (asked_of w q) (moving_of (service_setting w file) n f)) e

  -- of every refused file
  pub refused_move : MoveRefuses name file w r l
  refused_move =
      record {
        moved = refused_moving;
        unmoved = λ n f x y a h.
            record {
              answer = h.answer ∙ ap written_answer (refused_moving n f);
              name = h.name ∙ ap (λ (v : Writing). name_after v n) (refused_moving n f);
              file = h.file ∙ ap (λ (v : Writing). file_after v f) (refused_moving n f);
            };
      }

pub saturday : (name file : List ℕ) {n : ℕ} → FaultyPassphrase D.ConnMan file n → ConnManRefuses name file n
saturday name file p =
    let h = faulty_refused D.ConnMan name file p in
    record {
      refusal = h.refusal;
      line = h.line;
      early = h.early;
      read = h.is;
      service = λ w. refused_service name file h.is w;
      move = λ w. refused_move name file h.is w;
    }
