-- "the file's own refusals": the reading of a file gives the numbers 1 to 15 and no other.
use Rattle.std.specs.Prelude.{ℕ, suc, ◌+◌, ◌≤◌, ◌≡◌, Bool, true, false, cond, ◌&&◌, List, [], ◌∷◌, leb, length, Option, None, Some, Ok, Err}
use Rattle.std.proofs.Common.{arith, subst}
use Rattle.text.specs.Parts.{lines}
use Rattle.text.specs.Options.{or_else}
use Rattle.text.specs.OptionLaws.{IfSome}
use Rattle.text.specs.declared.Dialect.{Dialect}
use Rattle.lines.specs.Lines.{Line, blank, comment, broken, header, setting, line_of}
use Rattle.lines.specs.declared.Break.TheVariants as B
use Rattle.kinds.specs.Typed.{Judged, good, broken_text, broken_kind, judged}
use Rattle.kinds.specs.declared.Kind.{Kind}
use Rattle.rules.specs.Tables.{group_of, kind_of}
use Rattle.rules.specs.Sections.{Entry, Section, given, name_given, serves, services}
use Rattle.rules.specs.Faults.{header_fault, value_fault, key_fault, setting_fault, fault, fault_at}
use Rattle.rules.specs.declared.Fault.{Fault}
use Rattle.rules.specs.Groups.{lack_or_clash, lacks, clashes, service_fault, section_fault, services_fault, file_lacks, file_clashes, file_fault}
use Rattle.rules.specs.Reading.{Name, iwd_name, connman_file, name_in, after_line, line_fault, sections_of, groups_fault, verdict, reading_of, reading}
use Rattle.rules.specs.Numbers.{number_of}
use Rattle.rules.specs.declared.Group.{Group}
use Rattle.rules.specs.declared.Refusal.{Refusal}
use Rattle.rules.specs.declared.Refusal.TheVariants.{Size, RepeatedGroup, ManyServices, RepeatedKey}
use Rattle.rules.specs.Answering.{Reading, refused_at}

abbrev Own : Option Refusal → Type 0
Own o = IfSome (λ r. number_of r ≤ 15) o

abbrev OwnFault : Option Fault → Type 0
OwnFault o = IfSome (λ f. number_of f.refusal ≤ 15) o

-- ---- lines

header_own : (n : List ℕ) (o : Option Group) (gs : List Section) → Own (header_fault n o gs)
header_own n None gs = omega arith
header_own n (Some g) gs = go (name_given n gs) (serves g && leb 8 (services gs))
  where
    go : (a b : Bool) → Own (cond a (Some RepeatedGroup) (cond b (Some ManyServices) None))
    go true b = omega arith
    go false true = omega arith
    go false false = tt

value_own : (j : Judged) → Own (value_fault j)
value_own (good t) = tt
value_own broken_text = omega arith
value_own broken_kind = omega arith

key_own : (d : Dialect) (k v : List ℕ) (o : Option Kind) (es : List Entry) → Own (key_fault d k v o es)
key_own d k v None es = omega arith
key_own d k v (Some x) es = go (given k es)
  where
    go : (b : Bool) → Own (cond b (Some RepeatedKey) (value_fault (judged d x v)))
    go true = omega arith
    go false = value_own (judged d x v)

setting_own : (d : Dialect) (k v : List ℕ) (gs : List Section) → Own (setting_fault d k v gs)
setting_own d k v [] = omega arith
setting_own d k v (g ∷ gs) = key_own d k v (kind_of g.group k) g.entries

line_own : (d : Dialect) (gs : List Section) (l : Line) → Own (fault d gs l)
unfolding fault
line_own d gs blank = tt
line_own d gs comment = tt
line_own d gs (broken B.Unrecognized) = omega arith
line_own d gs (broken B.Extension) = omega arith
line_own d gs (broken B.BadHeader) = omega arith
line_own d gs (header n) = header_own n (group_of d n) gs
line_own d gs (setting k v) = setting_own d k v gs

-- ---- the file

at_own : (l : ℕ) (o : Option Refusal) → Own o → OwnFault (fault_at l o)
at_own l None h = tt
at_own l (Some r) h = h

or_own : (a b : Option Fault) → OwnFault a → OwnFault b → OwnFault (or_else a b)
or_own None b h g = g
or_own (Some f) b h g = h

lines_own : (d : Dialect) (n s : ℕ) (gs : List Section) (ls : List (List ℕ)) → OwnFault (line_fault d n s gs ls)
unfolding line_fault
lines_own d n s gs [] = tt
lines_own d n s gs (l ∷ ls) = or_own (fault_at n (fault d gs (line_of d l))) (line_fault d (suc n) (s + length l + 1) (after_line d n s l gs) ls) (at_own n (fault d gs (line_of d l)) (line_own d gs (line_of d l))) (lines_own d (suc n) (s + length l + 1) (after_line d n s l gs) ls)

rule_own : (a b : Bool) → Own (lack_or_clash a b)
rule_own true b = omega arith
rule_own false true = omega arith
rule_own false false = tt

section_own : (b : Bool) (l : ℕ) (es : List Entry) → OwnFault (cond b (fault_at l (service_fault es)) None)
unfolding service_fault
section_own true l es = at_own l (lack_or_clash (lacks es) (clashes es)) (rule_own (lacks es) (clashes es))
section_own false l es = tt

services_own : (gs : List Section) → OwnFault (services_fault gs)
services_own [] = tt
services_own (g ∷ gs) = or_own (section_fault g) (services_fault gs) (section_own (serves g.group) g.line g.entries) (services_own gs)

groups_own : (n : Name) (gs : List Section) → OwnFault (groups_fault n gs)
unfolding file_fault
groups_own (iwd_name s) gs = at_own 0 (lack_or_clash (file_lacks s gs) (file_clashes s gs)) (rule_own (file_lacks s gs) (file_clashes s gs))
groups_own connman_file gs = services_own gs

abbrev OwnReading : Reading → Type 0
OwnReading (Ok c) = Unit
OwnReading (Err f) = number_of f.refusal ≤ 15

verdict_own : (o : Option Fault) (gs : List Section) → OwnFault o → OwnReading (verdict o gs)
verdict_own None gs h = tt
verdict_own (Some f) gs h = h

named_own : (d : Dialect) (o : Option Name) (file : List ℕ) → OwnReading (reading_of d o file)
named_own d None file = omega arith
named_own d (Some n) file = verdict_own (or_else (line_fault d 1 0 [] (lines file)) (groups_fault n (sections_of d file))) (sections_of d file) (or_own (line_fault d 1 0 [] (lines file)) (groups_fault n (sections_of d file)) (lines_own d 1 0 [] (lines file)) (groups_own n (sections_of d file)))

reading_own : (d : Dialect) (name file : List ℕ) → OwnReading (reading d name file)
unfolding reading
reading_own d name file = go (leb (length file) 16384)
  where
    go : (b : Bool) → OwnReading (cond b (reading_of d (name_in d name) file) (refused_at Size 0))
    go true = named_own d (name_in d name) file
    go false = omega arith

pub reading_number : (d : Dialect) (name file : List ℕ) {r : Refusal} {l : ℕ} → reading d name file ≡ refused_at r l →
    number_of r ≤ 15
reading_number d name file e = subst OwnReading e (reading_own d name file)
