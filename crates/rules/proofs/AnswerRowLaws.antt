-- A file that is refused is refused with a number and a line of its dialect's rows of document 01's table.
use Rattle.std.specs.Prelude.{ℕ, ◌+◌, ◌≡◌, Bool, cond, ◌&&◌, ◌||◌, List, [], ◌∷◌, ◌++◌, eqb, leb, length, Option, None, Some}
use Rattle.std.proofs.Common.{arith, ap, sym, ◌∙◌, subst, true≢false, length-append}
use Rattle.std.proofs.Math.Path.{refl}
use Rattle.std.proofs.Math.Bool.{true, false}
use Rattle.std.proofs.lemmas.Option.{none-some, same_Some}
use Rattle.text.specs.Bytes.{between}
use Rattle.text.specs.Parts.{lines}
use Rattle.text.specs.Laws.{and_true, inside}
use Rattle.text.specs.Options.{mapped, only, or_else}
use Rattle.text.specs.OptionLaws.{IfSome, if_some}
use Rattle.text.specs.Relations.{Each}
use Rattle.text.specs.declared.Dialect.{Dialect}
use Rattle.text.specs.declared.Dialect.TheVariants.{Iwd, ConnMan}
use Rattle.lines.specs.Lines.{Line, blank, comment, broken, header, setting, line_of}
use Rattle.lines.specs.LineRules.{LineReads}
use Rattle.lines.specs.LineRuleLaws.{line_reads}
use Rattle.lines.specs.declared.Break.TheVariants as B
use Rattle.kinds.specs.Typed.{Judged, good, broken_text, broken_kind, judged}
use Rattle.kinds.specs.declared.Kind.{Kind}
use Rattle.names.specs.Names.{Network, network_of, connman_name}
use Rattle.names.specs.declared.Suffix.{Suffix}
use Rattle.rules.specs.Tables.{group_of, kind_of}
use Rattle.rules.specs.Sections.{Entry, Section, given, name_given, serves, services}
use Rattle.rules.specs.Faults.{header_fault, value_fault, key_fault, setting_fault, fault, fault_at}
use Rattle.rules.specs.declared.Fault.{Fault}
use Rattle.rules.specs.Groups.{lack_or_clash, lacks, clashes, service_fault, section_fault, services_fault, file_lacks, file_clashes, file_fault}
use Rattle.rules.specs.Reading.{Name, iwd_name, connman_file, name_in, grown, sections_of, groups_fault, reading}
use Rattle.rules.specs.Numbers.{number_of}
use Rattle.rules.proofs.Acceptance.{FirstFaulty, Offends, too_long, misnamed, in_line_lem, in_group, refused_offends}
use Rattle.rules.proofs.GoodEntries.{iwd_plain}
use Rattle.rules.proofs.EntryPlaces.{is_line, SectionStands, sections_stand}
use Rattle.rules.specs.AnswerRows.{AnswerRow, bare, lined, placed, is_row, has_row, own_rows}
use Rattle.rules.specs.declared.Group.{Group}
use Rattle.rules.specs.declared.Refusal.{Refusal}
use Rattle.rules.specs.declared.Refusal.TheVariants as N
use Rattle.rules.specs.declared.Refusal.TheVariants.{RepeatedGroup, ManyServices, RepeatedKey}
use Rattle.rules.specs.Answering.{refused_at}

-- ---- rows

or_left : (a b : Bool) → a ≡ true → a || b ≡ true
or_left a b e = rw e

or_right : (a b : Bool) → b ≡ true → a || b ≡ true
or_right true b e = refl
or_right false b e = e

pub has_row_append : (k : ℕ) (rs ss : List AnswerRow) (n l : ℕ) → has_row k rs n l ≡ true →
    has_row k (rs ++ ss) n l ≡ true
has_row_append k [] ss n l e = absurd (true≢false (sym e))
has_row_append k (r ∷ rs) ss n l e = go (is_row k n l r) e (λ q. has_row_append k rs ss n l q)
  where
    go : (b : Bool) → b || has_row k rs n l ≡ true → (has_row k rs n l ≡ true → has_row k (rs ++ ss) n l ≡ true) →
        b || has_row k (rs ++ ss) n l ≡ true
    go true q f = refl
    go false q f = f q

-- whether a number has a row with a line
abbrev has_line : ℕ → List AnswerRow → Bool
has_line n [] = false
has_line n (bare m ∷ rs) = has_line n rs
has_line n (lined m ∷ rs) = eqb n m || has_line n rs
has_line n (placed m ∷ rs) = has_line n rs

line_has_row : (k : ℕ) (rs : List AnswerRow) (n l : ℕ) → between 1 k l ≡ true → has_line n rs ≡ true →
    has_row k rs n l ≡ true
line_has_row k [] n l h e = absurd (true≢false (sym e))
line_has_row k (bare m ∷ rs) n l h e = or_right (is_row k n l (bare m)) (has_row k rs n l) (line_has_row k rs n l h e)
line_has_row k (lined m ∷ rs) n l h e = go (eqb n m) e (λ q. line_has_row k rs n l h q)
  where
    go : (b : Bool) → b || has_line n rs ≡ true → (has_line n rs ≡ true → has_row k rs n l ≡ true) →
        (b && between 1 k l) || has_row k rs n l ≡ true
    go true q f = rw h
    go false q f = f q
line_has_row k (placed m ∷ rs) n l h e = or_right (is_row k n l (placed m)) (has_row k rs n l) (line_has_row k rs n l h e)

-- ---- lines

-- no line of ConnMan's is an extension
no_extension : (t : List ℕ) → line_of ConnMan t ≡ broken B.Extension → ⊥
no_extension t e = subst (LineReads ConnMan t) e (line_reads ConnMan t)

module _ (k l : ℕ) (here : between 1 k l ≡ true) where
  abbrev Own : Dialect → Refusal → Type 0
  Own d r = has_row k (own_rows d) (number_of r) l ≡ true

  -- a refusal of both dialects
  either : (d : Dialect) (r : Refusal) →
      has_line (number_of r) (own_rows Iwd) && has_line (number_of r) (own_rows ConnMan) ≡ true → Own d r
  either Iwd r e =
      line_has_row k (own_rows Iwd) (number_of r) l here (and_true (has_line (number_of r) (own_rows Iwd)) (has_line (number_of r) (own_rows ConnMan)) e).0
  either ConnMan r e =
      line_has_row k (own_rows ConnMan) (number_of r) l here (and_true (has_line (number_of r) (own_rows Iwd)) (has_line (number_of r) (own_rows ConnMan)) e).1

  -- only ConnMan has services to count, and only iwd has extensions
  header_has_row : (d : Dialect) (n : List ℕ) (o : Option Group) (gs : List Section) → group_of d n ≡ o →
      IfSome (Own d) (header_fault n o gs)
  header_has_row d n None gs q = either d N.UnknownGroup refl
  header_has_row d n (Some g) gs q = go d q (name_given n gs)
    where
      many : (d : Dialect) → group_of d n ≡ Some g → (a b : Bool) → serves g ≡ a →
          IfSome (Own d) (cond (a && b) (Some ManyServices) None)
      many d q false b p = tt
      many d q true false p = tt
      many Iwd q true true p = absurd (true≢false (sym p ∙ iwd_plain n g q))
      many ConnMan q true true p = line_has_row k (own_rows ConnMan) 13 l here refl

      go : (d : Dialect) → group_of d n ≡ Some g → (a : Bool) →
          IfSome (Own d) (cond a (Some RepeatedGroup) (cond (serves g && leb 8 (services gs)) (Some ManyServices) None))
      go d q true = either d RepeatedGroup refl
      go d q false = many d q (serves g) (leb 8 (services gs)) refl

  value_has_row : (d : Dialect) (j : Judged) → IfSome (Own d) (value_fault j)
  value_has_row d (good t) = tt
  value_has_row d broken_text = either d N.ValueText refl
  value_has_row d broken_kind = either d N.ValueKind refl

  key_has_row : (d : Dialect) (key v : List ℕ) (o : Option Kind) (es : List Entry) →
      IfSome (Own d) (key_fault d key v o es)
  key_has_row d key v None es = either d N.UnknownKey refl
  key_has_row d key v (Some x) es = go (given key es)
    where
      go : (b : Bool) → IfSome (Own d) (cond b (Some RepeatedKey) (value_fault (judged d x v)))
      go true = either d RepeatedKey refl
      go false = value_has_row d (judged d x v)

  setting_has_row : (d : Dialect) (key v : List ℕ) (gs : List Section) → IfSome (Own d) (setting_fault d key v gs)
  setting_has_row d key v [] = either d N.NoGroup refl
  setting_has_row d key v (g ∷ gs) = key_has_row d key v (kind_of g.group key) g.entries

  extension_has_row : (d : Dialect) (t : List ℕ) → line_of d t ≡ broken B.Extension → Own d N.Extension
  extension_has_row Iwd t e = line_has_row k (own_rows Iwd) 4 l here refl
  extension_has_row ConnMan t e = absurd (no_extension t e)

  fault_has_row : (d : Dialect) (gs : List Section) (t : List ℕ) (x : Line) → line_of d t ≡ x →
      IfSome (Own d) (fault d gs x)
  unfolding fault
  fault_has_row d gs t blank e = tt
  fault_has_row d gs t comment e = tt
  fault_has_row d gs t (broken B.Unrecognized) e = either d N.Unrecognized refl
  fault_has_row d gs t (broken B.Extension) e = extension_has_row d t e
  fault_has_row d gs t (broken B.BadHeader) e = either d N.BadHeader refl
  fault_has_row d gs t (header n) e = header_has_row d n (group_of d n) gs refl
  fault_has_row d gs t (setting key v) e = setting_has_row d key v gs

-- ---- groups

-- a fault of a group, which has the line l
module _ (k l : ℕ) where
  iwd_rule : (a b : Bool) →
      IfSome (λ f. has_row k (own_rows Iwd) (number_of f.refusal) f.line ≡ true) (fault_at 0 (lack_or_clash a b))
  iwd_rule true b = refl
  iwd_rule false true = refl
  iwd_rule false false = tt

  service_rule : between 1 k l ≡ true → (a b : Bool) →
      IfSome (λ f. has_row k (own_rows ConnMan) (number_of f.refusal) f.line ≡ true) (fault_at l (lack_or_clash a b))
  service_rule h true b = line_has_row k (own_rows ConnMan) 14 l h refl
  service_rule h false true = line_has_row k (own_rows ConnMan) 15 l h refl
  service_rule h false false = tt

module _ (file : List ℕ) where
  abbrev OwnFault : Dialect → Fault → Type 0
  OwnFault d f = has_row (length (lines file)) (own_rows d) (number_of f.refusal) f.line ≡ true

  file_has_row : (s : Suffix) (gs : List Section) → IfSome (OwnFault Iwd) (file_fault s gs)
  unfolding file_fault
  file_has_row s gs = iwd_rule (length (lines file)) 0 (file_lacks s gs) (file_clashes s gs)

  section_has_row : (g : Section) → SectionStands file g → IfSome (OwnFault ConnMan) (section_fault g)
  unfolding service_fault
  section_has_row g h = go (serves g.group)
    where
      go : (b : Bool) →
          IfSome (OwnFault ConnMan) (cond b (fault_at g.line (lack_or_clash (lacks g.entries) (clashes g.entries))) None)
      go true = service_rule (length (lines file)) g.line h.line (lacks g.entries) (clashes g.entries)
      go false = tt

  services_has_row : (gs : List Section) → Each (SectionStands file) gs → IfSome (OwnFault ConnMan) (services_fault gs)
  services_has_row [] h = tt
  services_has_row (g ∷ gs) h =
      go (section_fault g) (section_has_row g h.0) (services_fault gs) (services_has_row gs h.1)
    where
      go : (a : Option Fault) → IfSome (OwnFault ConnMan) a → (b : Option Fault) → IfSome (OwnFault ConnMan) b →
          IfSome (OwnFault ConnMan) (or_else a b)
      go None p b q = q
      go (Some f) p b q = p

  groups_has_row : (d : Dialect) (name : List ℕ) {n : Name} → name_in d name ≡ Some n →
      IfSome (OwnFault d) (groups_fault n (sections_of d file))
  groups_has_row Iwd name {n} e = go (network_of name) e
    where
      go : (o : Option Network) → mapped (λ x. iwd_name x.suffix) o ≡ Some n →
          IfSome (OwnFault Iwd) (groups_fault n (sections_of Iwd file))
      go None q = absurd (none-some n q)
      go (Some x) q =
          rw (← same_Some (iwd_name x.suffix) n q) (file_has_row x.suffix (sections_of Iwd file))
  groups_has_row ConnMan name {n} e = go (connman_name name) e
    where
      go : (b : Bool) → only b (Some connman_file) ≡ Some n →
          IfSome (OwnFault ConnMan) (groups_fault n (sections_of ConnMan file))
      go true q =
          rw (← same_Some connman_file n q) (services_has_row (sections_of ConnMan file) (sections_stand ConnMan file))
      go false q = absurd (none-some n q)

-- ---- the file

-- the line of a faulty line is a line of the file
faulty_line : (d : Dialect) (file : List ℕ) {f : Fault} → FirstFaulty d 1 0 [] (lines file) f →
    is_line file f.line ≡ true
faulty_line d file {f} w =
    let n : length (lines file) ≡ length w.before + length (w.line ∷ w.rest) = ap length w.is ∙ length-append w.before (w.line ∷ w.rest) in
    inside {x = f.line} 1 (length (lines file)) (omega (arith, w.number)) (omega (arith, w.number, n))

offends_has_row : (d : Dialect) (name file : List ℕ) {r : Refusal} {l : ℕ} → Offends d name file r l →
    has_row (length (lines file)) (own_rows d) (number_of r) l ≡ true
offends_has_row Iwd name file (too_long h) = refl
offends_has_row ConnMan name file (too_long h) = refl
offends_has_row Iwd name file (misnamed h n) = refl
offends_has_row ConnMan name file (misnamed h n) = refl
offends_has_row d name file (in_line_lem h n {f} w) =
    if_some (λ r. has_row (length (lines file)) (own_rows d) (number_of r) f.line ≡ true) (fault_has_row (length (lines file)) f.line (faulty_line d file w) d (grown d 1 0 [] w.before) w.line (line_of d w.line) refl) w.faulty
offends_has_row d name file (in_group h n o e) = if_some (OwnFault file d) (groups_has_row file d name n) e

pub reading_has_row : (d : Dialect) (name file : List ℕ) {r : Refusal} {l : ℕ} → reading d name file ≡ refused_at r l →
    has_row (length (lines file)) (own_rows d) (number_of r) l ≡ true
reading_has_row d name file e = offends_has_row d name file (refused_offends d name file e)
