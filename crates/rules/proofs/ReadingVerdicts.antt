-- The steps of `Exactly`: the reading's answer is one by the rules, and an answer by the rules is the reading's.
use Rattle.std.specs.Prelude.{ℕ, ◌≤◌, ◌≡◌, Bool, true, false, cond, leb, Option, None, Some, Ok, Err}
use Rattle.std.proofs.Common.{arith, ap₂, ◌∙◌, subst, le-leb, leb-true, leb-false}
use Rattle.std.proofs.Math.Path.{refl}
use mathlib.Core.List.{List, [], map, reverse}
use Rattle.std.proofs.lemmas.Bool.{lt-leb}
use Rattle.std.proofs.Math.ListN.{length}
use Rattle.text.specs.Parts.{lines}
use Rattle.text.specs.Options.{or_else}
use Rattle.text.specs.Relations.{Each}
use Rattle.text.specs.OccurrenceLaws.{first_each, count_unique}
use Rattle.text.specs.declared.Dialect.{Dialect}
use Rattle.lines.specs.Lines.{Line, blank, comment, header, setting, broken, line_of}
use Rattle.lines.specs.LineRuleLaws.{file_lines, lines_file}
use Rattle.lines.specs.declared.Break.TheVariants as B
use Rattle.rules.specs.Sections.{services, settings}
use Rattle.rules.specs.declared.Fault.{Fault}
use Rattle.rules.specs.Reading.{Name, iwd_name, connman_file, name_in, line_fault, grown, sections_of, groups_fault, verdict, reading_of, reading}
use Rattle.rules.specs.Numbers.{number_of}
use Rattle.rules.specs.LineOrder.{IsSetting, ServiceHeader, RowApplies, line_rows, LinesAllowed, FaultyLine}
use Rattle.rules.specs.GroupRules.{Faulty, missing, contradicts, FaultyGroup}
use Rattle.rules.specs.FileRules.{Admitted, AcceptedFile, RefusedAtLine, RefusedAtGroup, RefusedFile, too_long, misnamed, at_line, at_group, Answers}
use Rattle.rules.specs.NameLaws.{named_is, is_named, unnamed, none_named}
use Rattle.rules.proofs.GroupVerdicts.{GroupsVerdict, groups_verdict}
use Rattle.rules.proofs.FileVerdicts.{LinesVerdict, lines_verdict, lines_stand, lines_unique, groups_unique, settings_counted, services_counted}
use Rattle.rules.specs.declared.Refusal.{Refusal}
use Rattle.rules.specs.declared.Refusal.TheVariants as R
use Rattle.rules.specs.Answering.{Reading, accepted_with, refused_at}

-- ---- the reading's answer is one by the rules

abbrev text_lines : Dialect → List ℕ → List Line
text_lines d file = map (line_of d) (lines file)

abbrev first_fault : Dialect → List ℕ → Option Fault
first_fault d file = line_fault d 1 0 [] (lines file)

module _ (d : Dialect) (name file : List ℕ) where
  groups_judged : (k : Name) → first_fault d file ≡ None →
      GroupsVerdict d k (text_lines d file) (groups_fault k (sections_of d file))
  unfolding sections_of
  groups_judged k e =
      groups_verdict d (grown d 1 0 [] (lines file)) (text_lines d file) (lines_stand d (lines file) e)
      (subst (LinesVerdict d (text_lines d file)) e (lines_verdict d (lines file))) k

  module _ {k : Name} (a : Admitted d name file k (text_lines d file)) where
    group_answer_lem : first_fault d file ≡ None → LinesAllowed d (text_lines d file) → (o : Option Fault) →
        GroupsVerdict d k (text_lines d file) o → Answers d name file (verdict o (sections_of d file))
    unfolding sections_of
    group_answer_lem e h None v = record {
      kind = k;
      ls = text_lines d file;
      admitted = a;
      allowed = h;
      sound = v;
      settings = settings_counted d (grown d 1 0 [] (lines file)) (text_lines d file) (lines_stand d (lines file) e);
      services = services_counted d (grown d 1 0 [] (lines file)) (text_lines d file) (lines_stand d (lines file) e);
    }
    group_answer_lem e h (Some f) v =
        at_group (record { kind = k; ls = text_lines d file; admitted = a; allowed = h; faulty = v })

    line_answer : (o : Option Fault) → first_fault d file ≡ o → LinesVerdict d (text_lines d file) o →
        Answers d name file (verdict (or_else o (groups_fault k (sections_of d file))) (sections_of d file))
    line_answer None e v = group_answer_lem e v (groups_fault k (sections_of d file)) (groups_judged k e)
    line_answer (Some f) e v = at_line (record { kind = k; ls = text_lines d file; admitted = a; faulty = v })

  pub reading_answers : Answers d name file (reading d name file)
  unfolding reading
  reading_answers = go (leb (length file) 16384) refl
    where
      named : length file ≤ 16384 → (o : Option Name) → name_in d name ≡ o → Answers d name file (reading_of d o file)
      named h None e = misnamed h (none_named d name e)
      named h (Some k) e =
          line_answer (record { size = h; named = is_named d name k e; lines = file_lines d file })
          (first_fault d file) refl (lines_verdict d (lines file))

      go : (b : Bool) → leb (length file) 16384 ≡ b →
          Answers d name file (cond b (reading_of d (name_in d name) file) (refused_at R.Size 0))
      go true e = named (leb-true (length file) 16384 e) (name_in d name) refl
      go false e = too_long (leb-false (length file) 16384 e)

  -- ---- and an answer by the rules is the reading's

  module _ {k : Name} {ls : List Line} (a : Admitted d name file k ls) where
    lines_are : text_lines d file ≡ ls
    lines_are = lines_file d file ls a.lines

    line_decides : (o : Option Fault) → LinesVerdict d ls o → first_fault d file ≡ o
    line_decides o v =
        lines_unique d (text_lines d file) (first_fault d file) o (lines_verdict d (lines file)) (rw lines_are v)

    group_decides : LinesAllowed d ls → (o : Option Fault) → GroupsVerdict d k ls o →
        groups_fault k (sections_of d file) ≡ o
    group_decides h o v =
        groups_unique d k (text_lines d file) (groups_fault k (sections_of d file)) o
        (groups_judged k (line_decides None h)) (rw lines_are v)

    admitted_reading : reading d name file ≡ verdict (or_else (first_fault d file) (groups_fault k (sections_of d file))) (sections_of d file)
    unfolding reading
    admitted_reading = rw (le-leb (length file) 16384 a.size, named_is d name k a.named)

  accepted_reading : (n m : ℕ) → AcceptedFile d name file n m → reading d name file ≡ accepted_with n m
  unfolding sections_of
  accepted_reading n m h =
      let e = line_decides h.admitted None h.allowed in
      let q = lines_are h.admitted in
      let s = lines_stand d (lines file) e in
      let gs = grown d 1 0 [] (lines file) in
      let i = settings_counted d gs (text_lines d file) s in
      let j = services_counted d gs (text_lines d file) s in
      let c : settings (reverse gs) ≡ n = count_unique IsSetting (rw q at i) h.settings in
      let b : services (reverse gs) ≡ m = count_unique (ServiceHeader d) (rw q at j) h.services in
      admitted_reading h.admitted ∙ rw (e, group_decides h.admitted h.allowed None h.sound) (ap₂ accepted_with c b)

  refused_reading : {r : Refusal} {n : ℕ} → RefusedFile d name file r n → reading d name file ≡ refused_at r n
  unfolding reading
  refused_reading (too_long h) = rw (lt-leb (length file) 16384 h)
  refused_reading (misnamed h k) = rw (le-leb (length file) 16384 h, unnamed d name k)
  refused_reading {r} {n} (at_line w) =
      admitted_reading w.admitted ∙ rw (line_decides w.admitted (Some (record { refusal = r; line = n })) w.faulty)
  refused_reading {r} {n} (at_group w) =
      admitted_reading w.admitted
      ∙ rw (
        line_decides w.admitted None w.allowed,
        group_decides w.admitted w.allowed (Some (record { refusal = r; line = n })) w.faulty,
      )

  pub answers_reading : (r : Reading) → Answers d name file r → reading d name file ≡ r
  answers_reading (Ok c) h = accepted_reading c.settings c.services h
  answers_reading (Err f) h = refused_reading h

-- ---- which numbers a line has, and which a group

rows_numbered : (l : Line) → Each (λ r. number_of r ≤ 13) (line_rows l)
rows_numbered blank = omega arith
rows_numbered comment = omega arith
rows_numbered (header n) = omega arith
rows_numbered (setting k v) = omega arith
rows_numbered (broken B.Unrecognized) = omega arith
rows_numbered (broken B.Extension) = omega arith
rows_numbered (broken B.BadHeader) = omega arith

line_numbered : (d : Dialect) (ls : List Line) (r : Refusal) (n : ℕ) → FaultyLine d ls r n → number_of r ≤ 13
line_numbered d ls r n h =
    first_each (RowApplies d h.before h.at) (λ q. number_of q ≤ 13) (line_rows h.at) (rows_numbered h.at) h.bad

rule_numbered : {L C : Type 0} {r : Refusal} → Faulty L C r → 14 ≤ number_of r
rule_numbered (missing h) = omega arith
rule_numbered (contradicts h k) = omega arith

group_numbered : (d : Dialect) (k : Name) (ls : List Line) (r : Refusal) (n : ℕ) → FaultyGroup d k ls r n →
    14 ≤ number_of r
group_numbered d (iwd_name s) ls r n h = rule_numbered h.0
group_numbered d connman_file ls r n h = rule_numbered h.bad.1

module _ (d : Dialect) (name file : List ℕ) where
  pub at_its_line : {r : Refusal} {n : ℕ} → RefusedFile d name file r n → 3 ≤ number_of r → number_of r ≤ 13 →
      RefusedAtLine d name file r n
  at_its_line (too_long h) low high = absurd (omega arith)
  at_its_line (misnamed h k) low high = absurd (omega arith)
  at_its_line (at_line w) low high = w
  at_its_line {r} {n} (at_group w) low high =
      let k = group_numbered d w.kind w.ls r n w.faulty in
      absurd (omega arith)

  pub at_its_group : {r : Refusal} {n : ℕ} → RefusedFile d name file r n → 14 ≤ number_of r →
      RefusedAtGroup d name file r n
  at_its_group (too_long h) low = absurd (omega arith)
  at_its_group (misnamed h k) low = absurd (omega arith)
  at_its_group {r} {n} (at_line w) low =
      let k = line_numbered d w.ls r n w.faulty in
      absurd (omega arith)
  at_its_group (at_group w) low = w
