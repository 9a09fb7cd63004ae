-- The walk over the lines: the invariant, and one law for each turn and return.
use Prim.Native.Nat.{ℕ, suc, ◌+◌, ◌≤◌, ◌<◌}
use native.Mathlib.Omega.{arith}
use native.Mathlib.Numerals.{add-one}
use mathlib.Core.Path.{◌≡◌, refl, ap, sym, ◌∙◌, subst}
use mathlib.Core.List.{List, [], ◌∷◌}
use Rattle.std.specs.Prelude.{Option, None, Some, Result, Ok, Err}
use lib.ListN.{length, drop, get_or, replicate, length-replicate, get_or-replicate, drop_of_length-le, length-append}
use Rattle.text.specs.Bytes.{in_line}
use Rattle.text.specs.Parts.{part, lines}
use Rattle.text.specs.Scans.{Stop}
use Rattle.text.proofs.ScanLaws.{stop_low, lines_at}
use Rattle.text.specs.Laws.{lead_more, part_long, part_next}
use Rattle.text.specs.Words.{place}
use Rattle.text.specs.declared.Dialect.{Dialect}
use Rattle.lines.specs.Lines.{Line, blank, comment, header, setting, broken, line_of, value_start}
use Rattle.rules.specs.Tables.{group_of}
use Rattle.tables.specs.KeyPlaces.{key_names}
use Rattle.rules.specs.Sections.{Entry, Section, with_line, with_entry, with_group, settings}
use Rattle.rules.specs.Faults.{fault}
use Rattle.rules.specs.Reading.{after_line, line_fault, grown}
use Rattle.rules.specs.declared.Group.{Group}
use Rattle.rules.specs.declared.Refusal.{Refusal}
use Rattle.places.specs.Store.{file_limit, slot_count, lines_from, codes_from, table_length, last_row, slot, empty_slot}
use Rattle.places.specs.History.{base_at, group_at}
use Rattle.places.specs.Holds.{RowKeeps, HoldsGroups}
use Rattle.reader.specs.Steps.{Known, StepIs, StepSays}
use Rattle.places.specs.declared.State.{State}
use Rattle.places.specs.declared.Current.TheVariants.{Outside}
use Rattle.places.proofs.RowLaws.{keys_few, lies}
use Rattle.pass.specs.Pass.{Walks}

-- the rest of the file from at on, after the groups of which state and table tell, is what the whole file is
pub record Running (d : Dialect) (file : List ℕ) (x : List ℕ) (st : State) (at line : ℕ) : Type 0 where
  pub small : length file ≤ file_limit
  pub within : at ≤ length file + 1
  pub low : st.settings < line
  pub high : line ≤ at + 1
  pub known : Known d file st x
  pub rest : line_fault d line at known.groups (lines (drop at file)) ≡ line_fault d 1 0 [] (lines file)
  pub all : grown d line at known.groups (lines (drop at file)) ≡ grown d 1 0 [] (lines file)

-- ---- before the first line

empty_slot_lem : (i : ℕ) → i < slot_count → slot i (replicate table_length 0) ≡ empty_slot
empty_slot_lem i h = rw (get_or-replicate {A = ℕ} table_length i 0 0 (omega (arith, h)), get_or-replicate {A = ℕ} table_length (slot_count + i) 0 0 (omega (arith, h)), get_or-replicate {A = ℕ} table_length (lines_from + i) 0 0 (omega (arith, h)), get_or-replicate {A = ℕ} table_length (codes_from + i) 0 0 (omega (arith, h)))

pub empty_row : (d : Dialect) (file : List ℕ) (b : ℕ) (g : Group) → b ≤ last_row → RowKeeps d file (replicate table_length 0) b g []
empty_row d file b g h = record { each = λ k z. empty_slot_lem (b + place k (key_names g)) (omega (arith, h, keys_few g k)) }

pub running_first : (d : Dialect) (file : List ℕ) → length file ≤ file_limit → {x : List ℕ} → x ≡ replicate table_length 0 → Running d file x (record { current = Outside; services = 0; settings = 0 }) 0 1
running_first d file h e =
    rw e
    (record {
      small = h;
      within = omega arith;
      low = omega arith;
      high = omega arith;
      known = record {
        groups = [];
        holds = record {
          table = record {
            long = length-replicate {A = ℕ} table_length 0;
            rows = record { few = omega arith; well = tt; each = λ r l. empty_row d file (base_at r) (group_at r) (let o = lies d r l in omega arith) };
            heads = λ r l. empty_slot_lem (base_at r) (let o = lies d r l in omega arith);
          };
          current = refl;
          services = refl;
          settings = refl;
          spans = record { few = omega arith; each = λ i k. absurd (omega (arith, k)) };
          names = λ n q. refl;
        };
      };
      rest = refl;
      all = refl;
    })

-- ---- one line further

entry_more : (e : Entry) (gs : List Section) → settings (with_entry e gs) ≤ settings gs + 1
entry_more e [] = omega arith
entry_more e (s ∷ gs) = omega (arith, length-append s.entries (e ∷ []))

group_more : (n : List ℕ) (o : Option Group) (l s : ℕ) (gs : List Section) → settings (with_group n o l s gs) ≤ settings gs + 1
group_more n None l s gs = omega arith
group_more n (Some g) l s gs = omega arith

settings_more : (d : Dialect) (n s v : ℕ) (p : Line) (gs : List Section) → settings (with_line d n s v p gs) ≤ settings gs + 1
unfolding with_line
settings_more d n s v blank gs = omega arith
settings_more d n s v comment gs = omega arith
settings_more d n s v (broken b) gs = omega arith
settings_more d n s v (header h) gs = group_more h (group_of d h) n s gs
settings_more d n s v (setting k u) gs = entry_more (record { key = k; value = u; line = n; start = s + v }) gs

line_good : (d : Dialect) (n s : ℕ) (gs : List Section) (l : List ℕ) (ls : List (List ℕ)) → fault d gs (line_of d l) ≡ None → line_fault d n s gs (l ∷ ls) ≡ line_fault d (suc n) (s + length l + 1) (after_line d n s l gs) ls
unfolding line_fault
line_good d n s gs l ls e = rw e

line_bad : (d : Dialect) (n s : ℕ) (gs : List Section) (l : List ℕ) (ls : List (List ℕ)) {r : Refusal} → fault d gs (line_of d l) ≡ Some r → line_fault d n s gs (l ∷ ls) ≡ Some (record { refusal = r; line = n })
unfolding line_fault
line_bad d n s gs l ls e = rw e

line_next : (d : Dialect) (n s : ℕ) (gs : List Section) (l : List ℕ) (ls : List (List ℕ)) → grown d n s gs (l ∷ ls) ≡ grown d (suc n) (s + length l + 1) (after_line d n s l gs) ls
unfolding grown
line_next d n s gs l ls = refl

module _ {d : Dialect} {file : List ℕ} {x : List ℕ} {st : State} {at line : ℕ} (h : Running d file x st at line) where
  module _ (l : at < length file) {end : ℕ} (t : Stop in_line file at end) {y : List ℕ} {r : Result State Refusal} (p : StepSays d file st x line at (value_start d (part at end file)) (line_of d (part at end file)) y r) where
    abbrev this : List ℕ
    this = part at end file

    view : lines (drop at file) ≡ this ∷ lines (drop (end + 1) file)
    view = lines_at l t

    next : at + length this + 1 ≡ end + 1
    next = omega (arith, part_long file at end (stop_low t) t.within, stop_low t)

    stepped : {q : Result State Refusal} → r ≡ q → StepIs d file h.known.groups line at (value_start d this) (line_of d this) y q
    stepped e = subst (StepIs d file h.known.groups line at (value_start d this) (line_of d this) y) e (p.says h.known.groups h.known.holds)

    pub running_stop : {f : Refusal} → r ≡ Err f → Walks d file y (Err (record { refusal = f; line = line }))
    running_stop e = record { is = sym h.rest ∙ ap (line_fault d line at h.known.groups) view ∙ line_bad d line at h.known.groups this (lines (drop (end + 1) file)) (stepped e) }

    pub running_turn : {s : State} → r ≡ Ok s → Running d file y s (end + 1) (line + 1)
    running_turn e =
        let k = stepped e in
        record {
          small = h.small;
          within = omega (arith, t.within);
          low = omega (arith, k.1.settings, settings_more d line at (value_start d this) (line_of d this) h.known.groups, h.known.holds.settings, h.low);
          high = omega (arith, h.high, stop_low t);
          known = record { groups = after_line d line at this h.known.groups; holds = k.1 };
          rest = rw add-one (ap (λ (i : ℕ). line_fault d (suc line) i (after_line d line at this h.known.groups) (lines (drop (end + 1) file))) (sym next) ∙ sym (ap (line_fault d line at h.known.groups) view ∙ line_good d line at h.known.groups this (lines (drop (end + 1) file)) k.0) ∙ h.rest);
          all = rw add-one (ap (λ (i : ℕ). grown d (suc line) i (after_line d line at this h.known.groups) (lines (drop (end + 1) file))) (sym next) ∙ sym (ap (grown d line at h.known.groups) view ∙ line_next d line at h.known.groups this (lines (drop (end + 1) file))) ∙ h.all);
        }

  -- a line that starts with `#` is a comment, and what is known before it is known behind it
  module _ (l : at < length file) {end : ℕ} (t : Stop in_line file at end) (b : get_or file at 0 ≡ 35) where
    not_empty : at < end
    not_empty = omega (arith, t.is, lead_more in_line file at l (ap in_line b))

    is_comment : line_of d (part at end file) ≡ comment
    unfolding line_of
    is_comment = ap (line_of d) (part_next file at end not_empty l ∙ ap (λ (c : ℕ). c ∷ part (at + 1) end file) b)

    passed_over : StepSays d file st x line at (value_start d (part at end file)) (line_of d (part at end file)) x (Ok st)
    unfolding fault with_line
    passed_over = record { says = λ gs k. rw is_comment (refl, k) }

    pub running_comment : Running d file x st (end + 1) (line + 1)
    running_comment = running_turn l t passed_over refl

  module _ (l : length file ≤ at) where
    none_left : lines (drop at file) ≡ []
    none_left = ap lines (drop_of_length-le file l)

    pub running_end : Walks d file x (Ok st)
    unfolding line_fault grown
    running_end =
        record {
          is = (sym h.rest ∙ ap (line_fault d line at h.known.groups) none_left, subst (λ (gs : List Section). HoldsGroups d file st x gs) (sym (ap (grown d line at h.known.groups) none_left) ∙ h.all) h.known.holds);
        }
