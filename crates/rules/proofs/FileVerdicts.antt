-- What the reading computes of a file, its first faulty line and the first fault of its groups, is what the rules say;
-- and what the rules say is one thing.
use Rattle.std.specs.Prelude.{ℕ, suc, ◌+◌, ◌≡◌, refl, Bool, true, false, cond, length, Option, None, Some}
use Rattle.std.proofs.Common.{arith, ap₂, sym, ◌∙◌, length-append}
use mathlib.Core.List.{List, [], ◌∷◌, ◌++◌, map, append_assoc, append-nil, reverse, reverse-cons}
use Rattle.text.specs.Options.{or_else}
use Rattle.text.specs.RunLaws.{cons_nil}
use Rattle.text.specs.Occurrences.{Count}
use Rattle.text.specs.OccurrenceLaws.{first_unique, Compared, alike, later, sooner, compare, everywhere_none, first_bad_unique}
use Rattle.text.specs.declared.Dialect.{Dialect}
use Rattle.lines.specs.Lines.{Line, line_of, value_start}
use Rattle.rules.specs.Sections.{Section, serves, services, settings}
use Rattle.rules.specs.Faults.{fault, fault_at}
use Rattle.rules.specs.declared.Fault.{Fault}
use Rattle.rules.specs.Reading.{Name, iwd_name, connman_file, after_line, line_fault, grown}
use Rattle.rules.specs.LineOrder.{IsSetting, ServiceHeader, Allowed, RowApplies, line_rows, FirstRow, LinesAllowed, FaultyLine}
use Rattle.rules.specs.GroupRules.{SoundService, FaultyService}
use Rattle.rules.proofs.SectionLaws.{SectionsRead, services_count, settings_count, sections_more}
use Rattle.rules.proofs.LineVerdicts.{LineVerdict, line_verdict, allowed_faultless}
use Rattle.rules.proofs.ServiceVerdicts.{faulty_sound, faulty_unique}
use Rattle.rules.proofs.GroupVerdicts.{GroupsVerdict}
use Rattle.rules.specs.declared.Refusal.{Refusal}

-- ---- line by line

abbrev pub LinesVerdict : Dialect → List Line → Option Fault → Type 0
LinesVerdict d ls None = LinesAllowed d ls
LinesVerdict d ls (Some f) = FaultyLine d ls f.refusal f.line

-- the verdict, and where no line is faulty the groups as they stand in the lines
abbrev Walked : Dialect → List Line → List Section → Option Fault → Type 0
Walked d ls gs None = LinesAllowed d ls × SectionsRead d gs ls
Walked d ls gs (Some f) = FaultyLine d ls f.refusal f.line

allowed_more : (d : Dialect) (before : List Line) (l : Line) → LinesAllowed d before → Allowed d before l →
    LinesAllowed d (before ++ (l ∷ []))
allowed_more d before l h k a x c e = go (compare before l [] a x c e)
  where
    go : Compared before l [] a x c → Allowed d a x
    go (alike i j t) = rw (← i, ← j) k
    go (later t i j) = h a x t i
    go (sooner [] i j) = absurd (cons_nil x c (sym j))
    go (sooner (y ∷ t) i j) = absurd (cons_nil y (t ++ x ∷ c) (sym j))

-- the groups and the first fault of the lines behind a line l, which is line n and starts at s
abbrev groups_behind : Dialect → ℕ → ℕ → List Section → List ℕ → List (List ℕ) → List Section
groups_behind d n s gs l ls = grown d (suc n) (s + length l + 1) (after_line d n s l gs) ls

abbrev fault_behind : Dialect → ℕ → ℕ → List Section → List ℕ → List (List ℕ) → Option Fault
fault_behind d n s gs l ls = line_fault d (suc n) (s + length l + 1) (after_line d n s l gs) ls

walk : (d : Dialect) (n s : ℕ) (gs : List Section) (before : List Line) (ls : List (List ℕ)) →
    n ≡ suc (length before) → LinesAllowed d before → SectionsRead d gs before →
    Walked d (before ++ map (line_of d) ls) (grown d n s gs ls) (line_fault d n s gs ls)
unfolding line_fault grown
walk d n s gs before [] e h k = rw (append-nil before) (h, k)
walk d n s gs before (l ∷ ls) e h k =
    go (fault d gs (line_of d l)) refl (line_verdict d gs before k (line_of d l))
    (λ a q. walk d (suc n) (s + length l + 1) (after_line d n s l gs) (before ++ (line_of d l ∷ [])) ls one_more
    (allowed_more d before (line_of d l) h a) (sections_more d gs before n s (value_start d l) (line_of d l) e q k))
  where
    one_more : suc n ≡ suc (length (before ++ (line_of d l ∷ [])))
    one_more = let q = length-append before (line_of d l ∷ []) in omega arith

    go : (o : Option Refusal) → fault d gs (line_of d l) ≡ o → LineVerdict d before (line_of d l) o →
        (Allowed d before (line_of d l) → fault d gs (line_of d l) ≡ None →
        Walked d ((before ++ (line_of d l ∷ [])) ++ map (line_of d) ls) (groups_behind d n s gs l ls) (fault_behind d n s gs l ls)) →
        Walked d (before ++ line_of d l ∷ map (line_of d) ls) (groups_behind d n s gs l ls) (or_else (fault_at n o) (fault_behind d n s gs l ls))
    go None q v f = rw (append_assoc before (line_of d l ∷ []) (map (line_of d) ls)) at (f v q)
    go (Some r) q v f = record {
      before = before;
      at = line_of d l;
      rest = map (line_of d) ls;
      is = refl;
      good = λ a x t i. h a x t i;
      bad = v;
      counted = e;
    }

module _ (d : Dialect) (ls : List (List ℕ)) where
  walked : Walked d (map (line_of d) ls) (grown d 1 0 [] ls) (line_fault d 1 0 [] ls)
  walked = walk d 1 0 [] [] ls refl none_before (tt, refl)
    where
      none_before : LinesAllowed d []
      none_before [] x c e = absurd (cons_nil x c (sym e))
      none_before (y ∷ a) x c e = absurd (cons_nil y (a ++ x ∷ c) (sym e))

  pub lines_verdict : LinesVerdict d (map (line_of d) ls) (line_fault d 1 0 [] ls)
  lines_verdict = go (line_fault d 1 0 [] ls) walked
    where
      go : (o : Option Fault) → Walked d (map (line_of d) ls) (grown d 1 0 [] ls) o →
          LinesVerdict d (map (line_of d) ls) o
      go None w = w.0
      go (Some f) w = w

  pub lines_stand : line_fault d 1 0 [] ls ≡ None → SectionsRead d (grown d 1 0 [] ls) (map (line_of d) ls)
  lines_stand e = go (line_fault d 1 0 [] ls) walked e
    where
      go : (o : Option Fault) → Walked d (map (line_of d) ls) (grown d 1 0 [] ls) o → o ≡ None →
          SectionsRead d (grown d 1 0 [] ls) (map (line_of d) ls)
      go None w e = w.1
      go (Some f) w e = let z : ◌≡◌ {A = ℕ} 0 1 = cc in absurd (omega arith)

-- ---- one verdict

fault_is : {f g : Fault} → (f.refusal ≡ g.refusal) × (f.line ≡ g.line) → Some f ≡ Some g
fault_is h = ap₂ (λ (r : Refusal) (n : ℕ). Some (record { refusal = r; line = n })) h.0 h.1

lines_apart : (d : Dialect) (a : List Line) (x : Line) (c : List Line) (r : Refusal) → Allowed d a x →
    FirstRow d a x r → ⊥
lines_apart d a x c r h f = allowed_faultless d a x r h f

pub lines_unique : (d : Dialect) (ls : List Line) (o p : Option Fault) → LinesVerdict d ls o → LinesVerdict d ls p →
    o ≡ p
lines_unique d ls None None v w = refl
lines_unique d ls None (Some g) v w = absurd (everywhere_none (lines_apart d) v w)
lines_unique d ls (Some f) None v w = absurd (everywhere_none (lines_apart d) w v)
lines_unique d ls (Some f) (Some g) v w =
    fault_is (first_bad_unique (lines_apart d) (λ a x c r q h k. first_unique (RowApplies d a x) (line_rows x) h k) v w)

services_apart : (d : Dialect) (a : List Line) (x : Line) (c : List Line) (r : Refusal) → SoundService d a x c →
    FaultyService d a x c r → ⊥
services_apart d a x c r h f = faulty_sound f.1 (h f.0)

pub groups_unique : (d : Dialect) (k : Name) (ls : List Line) (o p : Option Fault) → GroupsVerdict d k ls o →
    GroupsVerdict d k ls p → o ≡ p
groups_unique d k ls None None v w = refl
groups_unique d (iwd_name x) ls None (Some g) v w = absurd (faulty_sound w.0 v)
groups_unique d (iwd_name x) ls (Some f) None v w = absurd (faulty_sound v.0 w)
groups_unique d (iwd_name x) ls (Some f) (Some g) v w = fault_is (faulty_unique v.0 w.0, v.1 ∙ sym w.1)
groups_unique d connman_file ls None (Some g) v w = absurd (everywhere_none (services_apart d) v w)
groups_unique d connman_file ls (Some f) None v w = absurd (everywhere_none (services_apart d) w v)
groups_unique d connman_file ls (Some f) (Some g) v w =
    fault_is (first_bad_unique (services_apart d) (λ a x c r q h k. faulty_unique h.1 k.1) v w)

-- ---- counts, in file order

settings_append : (a b : List Section) → settings (a ++ b) ≡ settings a + settings b
settings_append [] b = omega arith
settings_append (g ∷ a) b = rw (settings_append a b) (omega arith)

settings_reverse : (gs : List Section) → settings (reverse gs) ≡ settings gs
settings_reverse [] = refl
settings_reverse (g ∷ gs) =
    rw (reverse-cons g gs, settings_append (reverse gs) (g ∷ []), settings_reverse gs) (omega arith)

services_append : (a b : List Section) → services (a ++ b) ≡ services a + services b
services_append [] b = omega arith
services_append (g ∷ a) b = rw (services_append a b) (go (serves g.group))
  where
    go : (c : Bool) →
        cond c (suc (services a + services b)) (services a + services b) ≡ cond c (suc (services a)) (services a) + services b
    go true = omega arith
    go false = omega arith

services_reverse : (gs : List Section) → services (reverse gs) ≡ services gs
services_reverse [] = refl
services_reverse (g ∷ gs) =
    rw (reverse-cons g gs, services_append (reverse gs) (g ∷ []), services_reverse gs) (go (serves g.group))
  where
    go : (c : Bool) → services gs + cond c 1 0 ≡ cond c (suc (services gs)) (services gs)
    go true = omega arith
    go false = omega arith

module _ (d : Dialect) (gs : List Section) (ls : List Line) (s : SectionsRead d gs ls) where
  pub settings_counted : Count IsSetting ls (settings (reverse gs))
  settings_counted = rw (settings_reverse gs) (settings_count d gs ls s)

  pub services_counted : Count (ServiceHeader d) ls (services (reverse gs))
  services_counted = rw (services_reverse gs) (services_count d gs ls s)
