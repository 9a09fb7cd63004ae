-- The answer to what is kept of an input is the answer to the whole input.
use mathlib.Core.Path.{◌≡◌, ap, ap₂, sym, subst, ◌∙◌}
use mathlib.Core.Bool.{Bool, true, false}
use mathlib.Core.List.{List, []}
use Prim.Native.Nat.{ℕ, ◌≤◌, ◌<◌}
use native.Mathlib.Omega.{arith}
use lib.ListN.{length, drop, length-append}
use Rattle.text.specs.Parts.{part}
use Rattle.text.specs.Words.{word}
use Rattle.rules.specs.Numbers.{answer_number}
use Rattle.writer.specs.Writing.{Writing, writes, refuses, Ample, Writes}
use Rattle.writer.specs.declared.Written.{Written}
use Rattle.mover.specs.Moves.{moving}
use Rattle.mover.proofs.Order.{moving_never_17}
use Rattle.intake.specs.declared.Form.{Form}
use Rattle.intake.specs.declared.Form.TheVariants.{Empty}
use Rattle.intake.specs.Forms.{form_from, complete}
use Rattle.intake.specs.declared.Input.{Input}
use Rattle.intake.specs.Input.{first_line, behind_line, KeepsInput, SomeInput}
use Rattle.intake.specs.Enough.{number_front, parted_first, parted_behind}
use Rattle.intake.proofs.Fronts.{front_part}
use Rattle.intake.specs.Number.{service_number}
use Rattle.qewaris_move.specs.Answers.{moved_input, Sayable}
use Rattle.qewaris_move.specs.Enough.{moving_front, moving_complete, moving_incomplete}

module _ (i : List ℕ) {number name file : List ℕ} {k : Input} (h : KeepsInput i number name file k) where
  kept_number : 3 < length number → service_number (part 0 k.number number) ≡ service_number (first_line i)
  kept_number l = ap service_number (front_part h.numbered) ∙ number_front h.line (length number) l ∙ ap service_number (parted_first k.ended h.parted)

  kept_line : h.kept.line ≡ first_line (behind_line i)
  kept_line = parted_first k.rest.ended h.kept.parted ∙ ap first_line (parted_behind k.ended h.parted)

  kept_rest : h.kept.rest ≡ behind_line (behind_line i)
  kept_rest = parted_behind k.rest.ended h.kept.parted ∙ ap behind_line (parted_behind k.ended h.parted)

  kept_answer : (n f : List ℕ) {w : ℕ} → 3 < length number → 16384 < length file → w ≡ service_number (part 0 k.number number) → moving h.kept.line (part 0 k.rest.file file) w n f ≡ moved_input i n f
  kept_answer n f {w} l m e =
      ap (λ (t : List ℕ). moving h.kept.line t w n f) (front_part h.kept.filed)
      ∙ moving_front w n f h.kept.line h.kept.rest (length file) m
      ∙ ap₂ (λ (a b : List ℕ). moving a b w n f) kept_line kept_rest
      ∙ ap (λ (v : ℕ). moving (first_line (behind_line i)) (behind_line (behind_line i)) v n f) (e ∙ kept_number l)

  pub kept_moved : {w : ℕ} → 3 < length number → 16384 < length file → w ≡ service_number (part 0 k.number number) → {n f x y : List ℕ} {a : Written} → ((line : List ℕ) → k.rest.form ≡ form_from Empty line → Writes (moving line (part 0 k.rest.file file) w n f) n f x y a) → Writes (moved_input i n f) n f x y a
  kept_moved l m e {n} {f} {x} {y} {a} g = subst (λ (v : Writing). Writes v n f x y a) (kept_answer n f l m e) (g h.kept.line h.kept.formed)

-- ---- what is asked by the form of the name line

module _ (w : ℕ) (file : List ℕ) {form : Form} {b : Bool} (d : b ≡ complete form) {n f x y : List ℕ} {a : Written} where
  pub complete_moved : b ≡ true → Writes (moving (word "a.config") file w n f) n f x y a → (line : List ℕ) → form ≡ form_from Empty line → Writes (moving line file w n f) n f x y a
  complete_moved t g line e = subst (λ (v : Writing). Writes v n f x y a) (moving_complete w n f line file (ap complete (sym e) ∙ sym d ∙ t)) g

  pub incomplete_moved : b ≡ false → Writes (moving [] file w n f) n f x y a → (line : List ℕ) → form ≡ form_from Empty line → Writes (moving line file w n f) n f x y a
  incomplete_moved t g line e = subst (λ (v : Writing). Writes v n f x y a) (moving_incomplete w n f line file (ap complete (sym e) ∙ sym d ∙ t)) g

-- ---- what is said

-- the new bytes lie in the buffers
written_within : (v : Writing) {n f x y : List ℕ} {a : Written} → Writes v n f x y a → (a.name_len ≤ length x) × (a.file_len ≤ length y)
written_within (writes p q) {n} {f} w = rw (w.answer, w.name, w.file) (omega (arith, length-append p (drop (length p) n)), omega (arith, length-append q (drop (length q) f)))
written_within (refuses r l) w = rw w.answer (omega arith, omega arith)

pub input_sayable : {number name file : List ℕ} {k : Input} → SomeInput number name file k → {n f x y : List ℕ} {a : Written} → ((i : List ℕ) (m : List ℕ) → KeepsInput i number m file k → Writes (moved_input i n f) n f x y a) → Ample n f → Sayable x y a
input_sayable {number} {name} h {n} {f} g r =
    let i = h.input in
    let w = g i name h.keeps in
    let within = written_within (moved_input i n f) w in
    record {
      name = within.0;
      file = within.1;
      room = λ e. moving_never_17 (first_line (behind_line i)) (behind_line (behind_line i)) (service_number (first_line i)) n f r (ap (λ (v : Written). answer_number v.answer) (sym w.answer) ∙ e);
    }
