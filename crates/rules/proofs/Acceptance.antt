-- A step of other proofs: which of the reading's own tests a file passes, `fault` of each line and then of the groups, and
-- at which it fails first. What the rules are, and that the reading keeps to them, is said in `FileRules` and `Exactly`.
use Rattle.std.specs.Prelude.{ℕ, suc, ◌+◌, ◌≤◌, ◌<◌, ◌≡◌, refl, Bool, true, false, List, [], ◌∷◌, ◌++◌, leb, length, Option, None, Some}
use Rattle.std.proofs.Common.{arith, ap, sym, ◌∙◌, le-leb, leb-true, leb-false}
use Rattle.std.proofs.lemmas.Option.{same_Some, none-some}
use Rattle.std.proofs.lemmas.Bool.{lt-leb}
use Rattle.text.specs.Parts.{lines}
use Rattle.text.specs.Options.{or_else}
use Rattle.text.specs.declared.Dialect.{Dialect}
use Rattle.lines.specs.Lines.{line_of}
use Rattle.rules.specs.Sections.{Section, services, settings}
use Rattle.rules.specs.Faults.{fault, fault_at}
use Rattle.rules.specs.declared.Fault.{Fault}
use Rattle.rules.specs.Reading.{after_line, line_fault, grown, sections_of, Name, name_in, groups_fault, verdict, reading}
use Rattle.rules.specs.declared.Refusal.{Refusal}
use Rattle.rules.specs.declared.Refusal.TheVariants.{Size, FileName}
use Rattle.rules.specs.AnsweringLaws.{same_refusal}
use Rattle.rules.specs.declared.Counts.{Counts}
use Rattle.rules.specs.Answering.{accepted_with, refused_at}

-- each line has no fault after the good lines before it; the first is line n and starts at s
abbrev pub LinesObey : Dialect → ℕ → ℕ → List Section → List (List ℕ) → Type 0
LinesObey d n s gs [] = Unit
LinesObey d n s gs (l ∷ ls) =
    (fault d gs (line_of d l) ≡ None) × LinesObey d (suc n) (s + length l + 1) (after_line d n s l gs) ls

-- "A file is accepted exactly when every line, and then every group, obeys 01's rules"
pub record Obeys (d : Dialect) (name file : List ℕ) : Type 0 where
  pub size : length file ≤ 16384
  pub kind : Name
  pub named : name_in d name ≡ Some kind
  pub each_line : LinesObey d 1 0 [] (lines file)
  pub groups : groups_fault kind (sections_of d file) ≡ None

-- ---- lines

obey_none : (d : Dialect) (n s : ℕ) (gs : List Section) (ls : List (List ℕ)) → LinesObey d n s gs ls →
    line_fault d n s gs ls ≡ None
unfolding line_fault
obey_none d n s gs [] h = refl
obey_none d n s gs (l ∷ ls) h = rw h.0 (obey_none d (suc n) (s + length l + 1) (after_line d n s l gs) ls h.1)

none_obey : (d : Dialect) (n s : ℕ) (gs : List Section) (ls : List (List ℕ)) → line_fault d n s gs ls ≡ None →
    LinesObey d n s gs ls
unfolding line_fault
none_obey d n s gs [] e = tt
none_obey d n s gs (l ∷ ls) e =
    go (fault d gs (line_of d l)) refl (λ k. none_obey d (suc n) (s + length l + 1) (after_line d n s l gs) ls k) e
  where
    go : (o : Option Refusal) → fault d gs (line_of d l) ≡ o →
        (line_fault d (suc n) (s + length l + 1) (after_line d n s l gs) ls ≡ None → LinesObey d (suc n) (s + length l + 1) (after_line d n s l gs) ls) →
        or_else (fault_at n o) (line_fault d (suc n) (s + length l + 1) (after_line d n s l gs) ls) ≡ None →
        LinesObey d n s gs (l ∷ ls)
    go None q f k = (q, f k)
    go (Some r) q f k = absurd (none-some _ (sym k))

-- a line that is faulty after lines that are not
pub record FirstFaulty (d : Dialect) (n s : ℕ) (gs : List Section) (ls : List (List ℕ)) (f : Fault) : Type 0 where
  pub before : List (List ℕ)
  pub line : List ℕ
  pub rest : List (List ℕ)
  pub is : ls ≡ before ++ line ∷ rest
  pub obey : LinesObey d n s gs before
  pub faulty : fault d (grown d n s gs before) (line_of d line) ≡ Some f.refusal
  pub number : f.line ≡ n + length before

faulty_some : (d : Dialect) (n s : ℕ) (gs : List Section) (before : List (List ℕ)) (l : List ℕ) (rest : List (List ℕ)) (f : Fault) →
    LinesObey d n s gs before → fault d (grown d n s gs before) (line_of d l) ≡ Some f.refusal →
    f.line ≡ n + length before → line_fault d n s gs (before ++ l ∷ rest) ≡ Some f
unfolding line_fault grown
faulty_some d n s gs [] l rest f o e q = let k : f.line ≡ n = omega (arith, q) in rw (e, ← k)
faulty_some d n s gs (b ∷ before) l rest f o e q =
    rw o.0 (faulty_some d (suc n) (s + length b + 1) (after_line d n s b gs) before l rest f o.1 e (omega (arith, q)))

some_faulty : (d : Dialect) (n s : ℕ) (gs : List Section) (ls : List (List ℕ)) (f : Fault) →
    line_fault d n s gs ls ≡ Some f → FirstFaulty d n s gs ls f
unfolding line_fault grown
some_faulty d n s gs [] f e = absurd (none-some f e)
some_faulty d n s gs (l ∷ ls) f e =
    go (fault d gs (line_of d l)) refl (λ k. some_faulty d (suc n) (s + length l + 1) (after_line d n s l gs) ls f k) e
  where
    go : (o : Option Refusal) → fault d gs (line_of d l) ≡ o →
        (line_fault d (suc n) (s + length l + 1) (after_line d n s l gs) ls ≡ Some f → FirstFaulty d (suc n) (s + length l + 1) (after_line d n s l gs) ls f) →
        or_else (fault_at n o) (line_fault d (suc n) (s + length l + 1) (after_line d n s l gs) ls) ≡ Some f →
        FirstFaulty d n s gs (l ∷ ls) f
    go None q g k =
        let h = g k in
        record { before = l ∷ h.before; line = h.line; rest = h.rest; is = ap (λ (r : List (List ℕ)). l ∷ r) h.is; obey = (q, h.obey); faulty = h.faulty; number = omega (arith, h.number) }
    go (Some r) q g k =
        let w = same_Some (record { refusal = r; line = n }) f k in
        record { before = []; line = l; rest = ls; is = refl; obey = tt; faulty = q ∙ ap (λ (x : Fault). Some x.refusal) w; number = sym (ap (λ (x : Fault). x.line) w) ∙ omega arith }

-- ---- the reading of a file whose size and name are allowed

module _ (d : Dialect) (name file : List ℕ) (size : length file ≤ 16384) where
  named_whole : {k : Name} → name_in d name ≡ Some k →
      reading d name file ≡ verdict (or_else (line_fault d 1 0 [] (lines file)) (groups_fault k (sections_of d file))) (sections_of d file)
  unfolding reading
  named_whole named = rw (le-leb (length file) 16384 size, named)

  misnamed_whole : name_in d name ≡ None → reading d name file ≡ refused_at FileName 0
  unfolding reading
  misnamed_whole named = rw (le-leb (length file) 16384 size, named)

-- "file over 16,384 bytes", under any name
pub reading_large : (d : Dialect) (name file : List ℕ) → 16384 < length file → reading d name file ≡ refused_at Size 0
unfolding reading
reading_large d name file h = rw (lt-leb (length file) 16384 h)

-- ---- the theorem

-- "else the first offending line is named": the first fault of a file, in 01's order
pub data Offends (d : Dialect) (name file : List ℕ) : Refusal → ℕ → Type 0 where
  too_long : 16384 < length file → Offends d name file Size 0
  misnamed : length file ≤ 16384 → name_in d name ≡ None → Offends d name file FileName 0
  in_line_lem : length file ≤ 16384 → {k : Name} → name_in d name ≡ Some k → {f : Fault} →
      FirstFaulty d 1 0 [] (lines file) f → Offends d name file f.refusal f.line
  in_group : length file ≤ 16384 → {k : Name} → name_in d name ≡ Some k → LinesObey d 1 0 [] (lines file) →
      {f : Fault} → groups_fault k (sections_of d file) ≡ Some f → Offends d name file f.refusal f.line

pub obeys_accepted : (d : Dialect) (name file : List ℕ) → Obeys d name file →
    reading d name file ≡ accepted_with (settings (sections_of d file)) (services (sections_of d file))
obeys_accepted d name file o =
    named_whole d name file o.size o.named ∙ rw (obey_none d 1 0 [] (lines file) o.each_line, o.groups)

pub offends_refused : (d : Dialect) (name file : List ℕ) {r : Refusal} {l : ℕ} → Offends d name file r l →
    reading d name file ≡ refused_at r l
offends_refused d name file (too_long h) = reading_large d name file h
offends_refused d name file (misnamed h n) = misnamed_whole d name file h n
offends_refused d name file (in_line_lem h n {f} w) =
    named_whole d name file h n
    ∙ rw (ap (line_fault d 1 0 []) w.is ∙ faulty_some d 1 0 [] w.before w.line w.rest f w.obey w.faulty w.number)
offends_refused d name file (in_group h n o e) = named_whole d name file h n ∙ rw (obey_none d 1 0 [] (lines file) o, e)

-- one of the two holds of every file
pub data Judgement (d : Dialect) (name file : List ℕ) : Type 0 where
  obeys : Obeys d name file → Judgement d name file
  offends : (r : Refusal) (l : ℕ) → Offends d name file r l → Judgement d name file

pub obeys_or_offends : (d : Dialect) (name file : List ℕ) → Judgement d name file
obeys_or_offends d name file = size (leb (length file) 16384) refl
  where
    group : (h : length file ≤ 16384) {k : Name} → name_in d name ≡ Some k → LinesObey d 1 0 [] (lines file) →
        (o : Option Fault) → groups_fault k (sections_of d file) ≡ o → Judgement d name file
    group h {k} n w None e = obeys (record { size = h; kind = k; named = n; each_line = w; groups = e })
    group h n w (Some f) e = offends f.refusal f.line (in_group h n w e)

    line : length file ≤ 16384 → {k : Name} → name_in d name ≡ Some k → (o : Option Fault) →
        line_fault d 1 0 [] (lines file) ≡ o → Judgement d name file
    line h {k} n None e = group h n (none_obey d 1 0 [] (lines file) e) (groups_fault k (sections_of d file)) refl
    line h n (Some f) e = offends f.refusal f.line (in_line_lem h n (some_faulty d 1 0 [] (lines file) f e))

    naming : length file ≤ 16384 → (o : Option Name) → name_in d name ≡ o → Judgement d name file
    naming h None e = offends FileName 0 (misnamed h e)
    naming h (Some k) e = line h e (line_fault d 1 0 [] (lines file)) refl

    size : (b : Bool) → leb (length file) 16384 ≡ b → Judgement d name file
    size true e = naming (leb-true (length file) 16384 e) (name_in d name) refl
    size false e = offends Size 0 (too_long (leb-false (length file) 16384 e))

-- accepted exactly when it obeys
pub accepted_obeys : (d : Dialect) (name file : List ℕ) {n m : ℕ} → reading d name file ≡ accepted_with n m →
    Obeys d name file
accepted_obeys d name file {n} {m} e = go (obeys_or_offends d name file)
  where
    go : Judgement d name file → Obeys d name file
    go (obeys o) = o
    go (offends r l w) =
        let q : refused_at r l ≡ accepted_with n m = sym (offends_refused d name file w) ∙ e in
        let z : ◌≡◌ {A = ℕ} 0 1 = cc in absurd (omega arith)

-- refused with the number and line of the first fault
pub refused_offends : (d : Dialect) (name file : List ℕ) {r : Refusal} {l : ℕ} → reading d name file ≡ refused_at r l →
    Offends d name file r l
refused_offends d name file {r} {l} e = go (obeys_or_offends d name file)
  where
    go : Judgement d name file → Offends d name file r l
    go (obeys o) =
        let q : accepted_with _ _ ≡ refused_at r l = sym (obeys_accepted d name file o) ∙ e in
        let z : ◌≡◌ {A = ℕ} 0 1 = cc in absurd (omega arith)
    go (offends t k w) =
        let s = same_refusal {A = Counts} (sym (offends_refused d name file w) ∙ e) in rw (s.0, s.1) at w
