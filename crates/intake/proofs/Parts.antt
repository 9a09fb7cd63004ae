-- The parts of the input with more behind it, and what is kept of them.
use mathlib.Core.Path.{◌≡◌, refl, ap, ap₂, sym, ◌∙◌}
use mathlib.Core.Bool.{Bool, true, false, cond, true≢false}
use mathlib.Core.List.{List, [], ◌∷◌, ◌++◌, append_assoc, append-nil}
use Prim.Native.Nat.{ℕ, ◌+◌, ◌-◌}
use native.Mathlib.Nat.{le_refl}
use native.Mathlib.Omega.{arith}
use borrow.Author.Tests.{eqb-true}
use lib.Dec.{eqb}
use lib.ListN.{length, take, drop, length-drop, length-take}
use lib.Seq.{take_all, drop-drop}
use Rattle.text.specs.Bytes.{in_line}
use Rattle.text.specs.Parts.{all}
use Rattle.text.specs.Laws.{all_append}
use Rattle.text.specs.Scans.{Stop}
use Rattle.text.proofs.ScanLaws.{stop_all, stop_some, stop_front, stop_after}
use Rattle.intake.specs.declared.Form.{Form}
use Rattle.intake.specs.declared.Form.TheVariants.{Empty}
use Rattle.intake.specs.declared.Input.{Input}
use Rattle.intake.specs.declared.NamedFile.{NamedFile}
use Rattle.intake.specs.Forms.{form_from, form_after}
use Rattle.intake.specs.Input.{first_line, behind_line, Parted, KeepsFile, KeepsInput, SomeInput, InBuffers}
use Rattle.intake.specs.Steps.{line_part, rest_part, ended_by, Cuts, TakesFile, TakesInput}
use Rattle.intake.specs.Enough.{front_all, after_all}
use Rattle.intake.proofs.Fronts.{front_none, appended_front}

-- ---- a line, its byte 10 and what is behind it

-- what ends in s, and what of s is behind it
record LineEnd (s : List ℕ) : Type 0 where
  is : s ≡ first_line s ++ 10 ∷ behind_line s
  within : all in_line (first_line s) ≡ true

line_end : (s : List ℕ) → all in_line s ≡ false → LineEnd s
line_end [] h = absurd (true≢false h)
line_end (x ∷ s) h = go (eqb x 10) refl (λ l. line_end s l)
  where
    go : (b : Bool) → eqb x 10 ≡ b → (all in_line s ≡ false → LineEnd s) → LineEnd (x ∷ s)
    go true e ih = record { is = rw e (ap (λ (y : ℕ). y ∷ s) (eqb-true x 10 e)); within = rw e }
    go false e ih =
        let c : LineEnd s = ih (rw e at h) in
        record { is = rw e (ap (λ (t : List ℕ). x ∷ t) c.is); within = rw e (rw e c.within) }

-- ---- where a part of the input is cut: in the line, or where it ends

module _ {s : List ℕ} {n : ℕ} (p : Stop in_line s 0 n) where
  pub cuts_line : n ≡ length s → Cuts s false (record { end = n; from = n; ended = false })
  cuts_line l =
      let a : all in_line s ≡ true = stop_all p l in
      record {
        low = omega arith;
        high = omega arith;
        line = sym (stop_front p);
        rest = ap (λ (m : ℕ). take m (drop n s)) (let z : length s - n ≡ 0 = omega arith in z) ∙ sym (ap (drop 1) (after_all s a));
        over = rw a;
      }

  pub cuts_end : (n ≡ length s → ⊥) → Cuts s false (record { end = n; from = n + 1; ended = true })
  cuts_end l = record {
    low = p.within;
    high = omega (arith, p.within, l);
    line = sym (stop_front p);
    rest = take_all (length s - (n + 1)) (drop (n + 1) s) (simp length-drop (le_refl _)) ∙ sym (drop-drop 1 n s) ∙ ap (drop 1) (sym (stop_after p));
    over = rw (stop_some p l);
  }

-- ---- the input with s behind

pub parted_more : {i line rest : List ℕ} (e : Bool) → Parted i e line rest → (s : List ℕ) → Parted (i ++ s) (ended_by e s) (line ++ line_part e s) (rest ++ rest_part e s)
parted_more {line = line} {rest = rest} true p s =
    rw (append-nil line)
    (record {
      is = ap (λ (l : List ℕ). l ++ s) p.is ∙ append_assoc line (10 ∷ rest) s;
      within = p.within;
      none = λ f. absurd (true≢false f);
    })
parted_more {i} {line} {rest} false p s = go (all in_line s) refl
  where
    go : (b : Bool) → all in_line s ≡ b → Parted (i ++ s) (ended_by false s) (line ++ first_line s) (rest ++ behind_line s)
    go true e = rw (e, front_all s e) (record { is = ap (λ (l : List ℕ). l ++ s) p.is; within = all_append in_line line s p.within e; none = λ z. ap₂ ◌++◌ (p.none refl) (ap (drop 1) (after_all s e)) })
    go false e =
        let c : LineEnd s = line_end s e in
        rw (e, p.none refl)
        (record {
          is = ap₂ ◌++◌ p.is c.is ∙ sym (append_assoc line (first_line s) (10 ∷ behind_line s));
          within = all_append in_line line (first_line s) p.within c.within;
          none = λ z. absurd (true≢false z);
        })

-- ---- the form of a line with more behind it

form_more : (f : Form) (a b : List ℕ) → form_from (form_from f a) b ≡ form_from f (a ++ b)
form_more f [] b = refl
form_more f (x ∷ a) b = form_more (form_after f x) a b

-- ---- what is kept

nothing_named : (name file : List ℕ) → KeepsFile [] name file (record { ended = false; name = 0; form = Empty; file = 0 })
nothing_named name file = record {
  line = [];
  rest = [];
  parted = record { is = refl; within = refl; none = λ e. refl };
  named = front_none name;
  formed = refl;
  filed = front_none file;
}

pub nothing_kept : (e : Bool) (number name file : List ℕ) → SomeInput number name file (record { ended = e; number = 0; rest = record { ended = false; name = 0; form = Empty; file = 0 } })
nothing_kept e number name file = record {
  input = cond e (10 ∷ []) [];
  keeps = record {
    line = [];
    rest = [];
    parted = record { is = refl; within = refl; none = λ z. refl };
    numbered = front_none number;
    kept = nothing_named name file;
  };
}

-- what is taken is kept behind what was kept
takes_file : {s n f x y : List ℕ} {k r : NamedFile} → TakesFile s k n f x y r → (i : List ℕ) → KeepsFile i n f k → KeepsFile (i ++ s) x y r
takes_file {s} {k = k} t i h = record {
  line = h.line ++ line_part k.ended s;
  rest = h.rest ++ rest_part k.ended s;
  parted = rw t.over (parted_more k.ended h.parted s);
  named = appended_front t.named h.line h.named;
  formed = t.formed ∙ ap (λ (f : Form). form_from f (line_part k.ended s)) h.formed ∙ form_more Empty h.line (line_part k.ended s);
  filed = appended_front t.filed h.rest h.filed;
}

pub takes_input : {s m n f w x y : List ℕ} {k r : Input} → TakesInput s k m n f w x y r → (i : List ℕ) → KeepsInput i m n f k → KeepsInput (i ++ s) w x y r
takes_input {s} {k = k} t i h = record {
  line = h.line ++ line_part k.ended s;
  rest = h.rest ++ rest_part k.ended s;
  parted = rw t.over (parted_more k.ended h.parted s);
  numbered = appended_front t.numbered h.line h.numbered;
  kept = takes_file t.rest h.rest h.kept;
}

-- what is kept lies in the buffers, and goes on with the input

module _ {number name file : List ℕ} {k : Input} (h : SomeInput number name file k) where
  pub in_buffers : InBuffers number name file k
  in_buffers = record {
    in_number = omega (arith, h.keeps.numbered.count, length-take (length number) h.keeps.line);
    in_name = omega (arith, h.keeps.kept.named.count, length-take (length name) h.keeps.kept.line);
    in_file = omega (arith, h.keeps.kept.filed.count, length-take (length file) h.keeps.kept.rest);
  }

  pub more_input : {s w x y : List ℕ} {r : Input} → TakesInput s k number name file w x y r → SomeInput w x y r
  more_input {s} t = record { input = h.input ++ s; keeps = takes_input t h.input h.keeps }
