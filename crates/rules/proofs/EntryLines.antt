-- "Lines count from 1": so does the line of every setting of a file, and 0 can stand for a setting that is absent.
use Rattle.std.specs.Prelude.{ℕ, zero, suc, ◌+◌, ◌≤◌, Bool, true, false, cond, length, Option, None, Some}
use Rattle.std.proofs.Common.{arith}
use mathlib.Core.List.{List, [], ◌∷◌, ◌++◌, reverse, reverse-cons}
use Rattle.text.specs.Parts.{lines}
use Rattle.text.specs.Words.{same}
use Rattle.text.specs.OptionLaws.{IfSome}
use Rattle.text.specs.declared.Dialect.{Dialect}
use Rattle.lines.specs.Lines.{Line, blank, comment, header, setting, broken, line_of, value_start}
use Rattle.rules.specs.Tables.{group_of}
use Rattle.rules.specs.Sections.{Entry, Section, serves, with_line, with_group, entry_of, entries_in}
use Rattle.rules.specs.Reading.{after_line, grown, sections_of}
use Rattle.rules.specs.Asking.{first_or, service_at}
use Rattle.rules.specs.declared.Group.{Group}

abbrev Counted : List Entry → Type 0
Counted [] = Unit
Counted (e ∷ es) = (1 ≤ e.line) × Counted es

abbrev AllCounted : List Section → Type 0
AllCounted [] = Unit
AllCounted (s ∷ gs) = Counted s.entries × AllCounted gs

-- ---- one line further, and in file order

counted_last : (es : List Entry) (e : Entry) → Counted es → 1 ≤ e.line → Counted (es ++ (e ∷ []))
counted_last [] e h k = (k, tt)
counted_last (x ∷ es) e h k = (h.0, counted_last es e h.1 k)

group_counted : (n : List ℕ) (o : Option Group) (l s : ℕ) (gs : List Section) → AllCounted gs →
    AllCounted (with_group n o l s gs)
group_counted n None l s gs h = h
group_counted n (Some g) l s gs h = (tt, h)

after_counted : (d : Dialect) (n s v : ℕ) (p : Line) (gs : List Section) → 1 ≤ n → AllCounted gs →
    AllCounted (with_line d n s v p gs)
unfolding with_line
after_counted d n s v blank gs l h = h
after_counted d n s v comment gs l h = h
after_counted d n s v (broken b) gs l h = h
after_counted d n s v (header m) gs l h = group_counted m (group_of d m) n s gs h
after_counted d n s v (setting k u) [] l h = tt
after_counted d n s v (setting k u) (g ∷ gs) l h =
    (counted_last g.entries (record { key = k; value = u; line = n; start = s + v }) h.0 l, h.1)

grown_counted : (d : Dialect) (n s : ℕ) (gs : List Section) (ls : List (List ℕ)) → 1 ≤ n → AllCounted gs →
    AllCounted (grown d n s gs ls)
unfolding grown
grown_counted d n s gs [] k h = h
grown_counted d n s gs (l ∷ ls) k h =
    grown_counted d (suc n) (s + length l + 1) (after_line d n s l gs) ls (omega arith) (after_counted d n s (value_start d l) (line_of d l) gs k h)

sections_last : (a : List Section) (g : Section) → AllCounted a → Counted g.entries → AllCounted (a ++ (g ∷ []))
sections_last [] g h k = (k, tt)
sections_last (x ∷ a) g h k = (h.0, sections_last a g h.1 k)

counted_reverse : (gs : List Section) → AllCounted gs → AllCounted (reverse gs)
counted_reverse [] h = tt
counted_reverse (g ∷ gs) h = rw (reverse-cons g gs) (sections_last (reverse gs) g (counted_reverse gs h.1) h.0)

sections_counted : (d : Dialect) (file : List ℕ) → AllCounted (sections_of d file)
unfolding sections_of
sections_counted d file =
    counted_reverse (grown d 1 0 [] (lines file)) (grown_counted d 1 0 [] (lines file) (omega arith) tt)

-- ---- a setting that is asked for

entry_counted : (k : List ℕ) (es : List Entry) → Counted es → IfSome (λ e. 1 ≤ e.line) (entry_of k es)
entry_counted k [] h = tt
entry_counted k (x ∷ es) h = go (same k x.key) (entry_counted k es h.1)
  where
    go : (b : Bool) → IfSome (λ e. 1 ≤ e.line) (entry_of k es) →
        IfSome (λ e. 1 ≤ e.line) (cond b (Some x) (entry_of k es))
    go true i = h.0
    go false i = i

entries_counted : (n : List ℕ) (gs : List Section) → AllCounted gs → Counted (entries_in n gs)
entries_counted n [] h = tt
entries_counted n (s ∷ gs) h = go (same n s.name) (entries_counted n gs h.1)
  where
    go : (b : Bool) → Counted (entries_in n gs) → Counted (cond b s.entries (entries_in n gs))
    go true i = h.0
    go false i = i

service_counted : (w : ℕ) (gs : List Section) → AllCounted gs → Counted (service_at w gs)
service_counted zero gs h = tt
service_counted (suc n) [] h = tt
service_counted (suc n) (s ∷ gs) h =
    go (serves s.group) n (service_counted n gs h.1) (service_counted (suc n) gs h.1)
  where
    go : (b : Bool) (n : ℕ) → Counted (service_at n gs) → Counted (service_at (suc n) gs) →
        Counted (cond b (first_or n s.entries (service_at n gs)) (service_at (suc n) gs))
    go true zero i j = h.0
    go true (suc m) i j = i
    go false n i j = j

-- in the group with a name, and in service w
pub group_line : (d : Dialect) (file group key : List ℕ) →
    IfSome (λ e. 1 ≤ e.line) (entry_of key (entries_in group (sections_of d file)))
group_line d file group key =
    entry_counted key (entries_in group (sections_of d file)) (entries_counted group (sections_of d file) (sections_counted d file))

pub service_line : (d : Dialect) (file : List ℕ) (w : ℕ) (key : List ℕ) →
    IfSome (λ e. 1 ≤ e.line) (entry_of key (service_at w (sections_of d file)))
service_line d file w key =
    entry_counted key (service_at w (sections_of d file)) (service_counted w (sections_of d file) (sections_counted d file))
