-- Where the groups and the settings of a file stand: each has a line of the file, and a setting's value is the part
-- of the file that starts where the setting says.
use Prim.Native.Nat.{ℕ, zero, suc, ◌+◌, ◌-◌, ◌≤◌, ◌<◌}
use native.Mathlib.Omega.{arith}
use Rattle.std.specs.Prelude.{◌≡◌, Bool, true, false, cond, not, ◌&&◌, eqb, take, drop, Option, None, Some}
use Rattle.std.proofs.Math.Path.{refl, sym}
use Rattle.std.proofs.Common.{ap, ◌∙◌, length-drop, drop-drop, length-take-le}
use mathlib.Core.List.{List, [], ◌∷◌, reverse, reverse-cons}
use Rattle.std.proofs.Math.ListN.{length}
use Rattle.std.proofs.Math.Seq.{take-length}
use Rattle.text.specs.Bytes.{between, is_blank, in_line, is_header_byte, is_key_byte}
use Rattle.text.specs.Parts.{lead, front, after, all, empty, part, trimmed, lines}
use Rattle.text.specs.Words.{same}
use Rattle.text.specs.Laws.{inside, lines_front, part_part}
use Rattle.text.specs.OptionLaws.{IfSome}
use Rattle.text.specs.Relations.{Each}
use Rattle.text.specs.RelationLaws.{each_append}
use Rattle.text.specs.declared.Dialect.{Dialect}
use Rattle.text.specs.declared.Dialect.TheVariants.{Iwd, ConnMan}
use Rattle.lines.specs.Lines.{Line, blank, comment, header, setting, broken, extends, bracket_of, ended, equal_of, behind_equal, setting_of, body_of, line_of, value_start, closed}
use Rattle.lines.specs.declared.Break.TheVariants.{Unrecognized, Extension, BadHeader}
use Rattle.rules.specs.Tables.{group_of}
use Rattle.rules.specs.Sections.{Entry, Section, serves, with_line as afterFor, with_entry, with_group, entry_of, entries_in}
use Rattle.rules.specs.Reading.{after_line, grown, sections_of}
use Rattle.rules.specs.Asking.{first_or, service_at}
use Rattle.rules.specs.declared.Group.{Group}

-- a line of a file, by its number
abbrev pub is_line : List ℕ → ℕ → Bool
is_line file l = between 1 (length (lines file)) l

pub record EntryStands (file : List ℕ) (e : Entry) : Type 0 where
  pub line : is_line file e.line ≡ true
  pub within : e.start + length e.value ≤ length file
  pub value : part e.start (e.start + length e.value) file ≡ e.value

pub record SectionStands (file : List ℕ) (g : Section) : Type 0 where
  pub line : is_line file g.line ≡ true
  pub entries : Each (EntryStands file) g.entries

module _ {A : Type 0} (P : A → Type 0) where
  each_reverse : (l : List A) → Each P l → Each P (reverse l)
  each_reverse [] h = tt
  each_reverse (x ∷ l) h = rw (reverse-cons x l) (each_append P (reverse l) (x ∷ []) (each_reverse l h.1) (h.0, tt))

-- ---- the end of a text

record EndOf (t s : List ℕ) : Type 0 where
  at : ℕ
  within : at ≤ length s
  is : drop at s ≡ t

end_end : {u t s : List ℕ} → EndOf u t → EndOf t s → EndOf u s
end_end {u} {t} {s} x y =
    let n : length t ≡ length s - y.at = sym (ap length y.is) ∙ length-drop y.at s in
    record { at = y.at + x.at; within = omega (arith, n, x.within, y.within); is = sym (drop-drop x.at y.at s) ∙ ap (drop x.at) y.is ∙ x.is }

lead_within : (p : ℕ → Bool) (s : List ℕ) → lead p s ≤ length s
lead_within p [] = omega arith
lead_within p (x ∷ s) = go (p x) (lead_within p s)
  where
    go : (b : Bool) → lead p s ≤ length s → cond b (suc (lead p s)) 0 ≤ suc (length s)
    go true h = omega arith
    go false h = omega arith

after_end : (p : ℕ → Bool) (s : List ℕ) → EndOf (after p s) s
after_end p s = record { at = lead p s; within = lead_within p s; is = refl }

rest_end : (s : List ℕ) → EndOf (drop 1 s) s
rest_end [] = record { at = 0; within = omega arith; is = refl }
rest_end (x ∷ s) = record { at = 1; within = omega arith; is = refl }

behind_end : (d : Dialect) (l : List ℕ) → EndOf (behind_equal d (after is_blank l)) l
behind_end d l =
    let s = after is_blank l in
    let k = after (is_key_byte d) s in
    let e = after is_blank k in
    end_end (after_end is_blank (drop 1 e)) (end_end (rest_end e) (end_end (after_end is_blank k) (end_end (after_end (is_key_byte d) s) (after_end is_blank l))))

-- ---- the value of a setting in its line

setting_ended : (d : Dialect) (l : List ℕ) {k v : List ℕ} → line_of d l ≡ setting k v →
    v ≡ ended d (behind_equal d (after is_blank l))
unfolding line_of bracket_of setting_of
setting_ended d l {k} {v} = body (after is_blank l)
  where
    equal : (key rest : List ℕ) → equal_of d key rest ≡ setting k v → v ≡ ended d (after is_blank (drop 1 rest))
    equal key [] e = let z : ◌≡◌ {A = ℕ} 0 1 = cc in absurd (omega arith)
    equal key (c ∷ s) e = go (not (empty key) && eqb c 61) e
      where
        go : (b : Bool) → cond b (setting key (ended d (after is_blank s))) (broken Unrecognized) ≡ setting k v →
            v ≡ ended d (after is_blank s)
        go true e = cc
        go false e = let z : ◌≡◌ {A = ℕ} 0 1 = cc in absurd (omega arith)

    bracket : (n : List ℕ) (a b : Bool) →
        cond a (broken Extension) (cond b (header n) (broken BadHeader)) ≡ setting k v → ⊥
    bracket n true b e = let z : ◌≡◌ {A = ℕ} 0 1 = cc in omega arith
    bracket n false true e = let z : ◌≡◌ {A = ℕ} 0 1 = cc in omega arith
    bracket n false false e = let z : ◌≡◌ {A = ℕ} 0 1 = cc in omega arith

    body : (t : List ℕ) → body_of d t ≡ setting k v → v ≡ ended d (behind_equal d t)
    body [] e = let z : ◌≡◌ {A = ℕ} 0 1 = cc in absurd (omega arith)
    body (c ∷ s) e = go (eqb c 35) (eqb c 91) e
      where
        go : (a b : Bool) → cond a comment (cond b (bracket_of d s) (setting_of d (c ∷ s))) ≡ setting k v →
            v ≡ ended d (behind_equal d (c ∷ s))
        go true b e = let z : ◌≡◌ {A = ℕ} 0 1 = cc in absurd (omega arith)
        go false true e =
            absurd (bracket (front is_header_byte s) (extends d s) (not (empty (front is_header_byte s)) && closed (after is_header_byte s)) e)
        go false false e = equal (front (is_key_byte d) (c ∷ s)) (after is_blank (after (is_key_byte d) (c ∷ s))) e

-- what is kept of a value is its front
trimmed_front : (w : List ℕ) → (length (trimmed w) ≤ length w) × (take (length (trimmed w)) w ≡ trimmed w)
trimmed_front [] = (omega arith, refl)
trimmed_front (x ∷ w) = go (is_blank x && all is_blank w) (trimmed_front w)
  where
    go : (b : Bool) → (length (trimmed w) ≤ length w) × (take (length (trimmed w)) w ≡ trimmed w) →
        (length (cond b [] (x ∷ trimmed w)) ≤ length (x ∷ w)) × (take (length (cond b [] (x ∷ trimmed w))) (x ∷ w) ≡ cond b [] (x ∷ trimmed w))
    go true h = (omega arith, refl)
    go false h = (omega arith, ap (λ (r : List ℕ). x ∷ r) h.1)

ended_front : (d : Dialect) (w : List ℕ) → (length (ended d w) ≤ length w) × (take (length (ended d w)) w ≡ ended d w)
ended_front Iwd w = (omega arith, take-length w)
ended_front ConnMan w = trimmed_front w

record ValueStands (d : Dialect) (l v : List ℕ) : Type 0 where
  within : value_start d l + length v ≤ length l
  is : part (value_start d l) (value_start d l + length v) l ≡ v

value_stands : (d : Dialect) (l : List ℕ) {k v : List ℕ} → line_of d l ≡ setting k v → ValueStands d l v
unfolding value_start
value_stands d l {k} {v} e =
    let w = behind_equal d (after is_blank l) in
    let t = behind_end d l in
    let n : length w ≡ length l - t.at = sym (ap length t.is) ∙ length-drop t.at l in
    let a : length l - length w ≡ t.at = omega (arith, n, t.within) in
    let q = setting_ended d l e in
    let f = ended_front d w in
    let m : length v ≡ length (ended d w) = ap length q in
    let h : length l - length w + length v - (length l - length w) ≡ length (ended d w) = omega (arith, m) in
    record {
      within = omega (arith, m, f.0, a, n, t.within);
      is = ap (λ (i : ℕ). take i (drop (length l - length w) l)) h ∙ ap (λ (i : ℕ). take (length (ended d w)) (drop i l)) a ∙ ap (take (length (ended d w))) t.is ∙ f.1 ∙ sym q;
    }

-- ---- the first line of a text

record FirstLine (t l : List ℕ) (ls : List (List ℕ)) : Type 0 where
  some : 0 < length t
  within : length l ≤ length t
  is : take (length l) t ≡ l
  rest : lines (drop (suc (length l)) t) ≡ ls

first_line_lem : (t : List ℕ) {l : List ℕ} {ls : List (List ℕ)} → lines t ≡ l ∷ ls → FirstLine t l ls
first_line_lem [] e = let z : ◌≡◌ {A = ℕ} 0 1 = cc in absurd (omega arith)
first_line_lem (x ∷ t) {l} {ls} e =
    let q : l ∷ ls ≡ front in_line (x ∷ t) ∷ lines (drop (suc (lead in_line (x ∷ t))) (x ∷ t)) = sym e ∙ lines_front (x ∷ t) (omega arith) in
    let a : l ≡ front in_line (x ∷ t) = cc in
    let b : ls ≡ lines (drop (suc (lead in_line (x ∷ t))) (x ∷ t)) = cc in
    let w = lead_within in_line (x ∷ t) in
    let n : length l ≡ lead in_line (x ∷ t) = ap length a ∙ length-take-le (lead in_line (x ∷ t)) (x ∷ t) w in
    record { some = omega arith; within = omega (arith, n, w); is = ap (λ (i : ℕ). take i (x ∷ t)) n ∙ sym a; rest = ap (λ (i : ℕ). lines (drop (suc i) (x ∷ t))) n ∙ sym b }

-- ---- a file

module _ (d : Dialect) (file : List ℕ) where
  -- a line l that starts at s, and the setting that it is
  line_entry : (n s : ℕ) (l : List ℕ) {ls : List (List ℕ)} {k v : List ℕ} → is_line file n ≡ true →
      FirstLine (drop s file) l ls → line_of d l ≡ setting k v →
      EntryStands file (record { key = k; value = v; line = n; start = s + value_start d l })
  line_entry n s l {k = k} {v = v} h f e =
      let w = value_stands d l e in
      let g : length (drop s file) ≡ length file - s = length-drop s file in
      let i : s + length l - s ≡ length l = omega arith in
      let at : part s (s + length l) file ≡ l = ap (λ (i : ℕ). take i (drop s file)) i ∙ f.is in
      let m : length (part s (s + length l) file) ≡ length l = ap length at in
      let a : s + value_start d l + length v ≡ s + (value_start d l + length v) = omega arith in
      record {
        line = h;
        within = omega (arith, g, f.some, f.within, w.within);
        value =
            ap (λ (i : ℕ). part (s + value_start d l) i file) a
            ∙ sym (part_part file s (s + length l) (value_start d l) (value_start d l + length v) (omega arith) (omega (arith, g, f.some, f.within)) (omega arith) (omega (arith, m, w.within)))
            ∙ ap (part (value_start d l) (value_start d l + length v)) at
            ∙ w.is;
      }

  group_after : (n s : ℕ) (gs : List Section) (m : List ℕ) (o : Option Group) → is_line file n ≡ true →
      Each (SectionStands file) gs → Each (SectionStands file) (with_group m o n s gs)
  group_after n s gs m None h k = k
  group_after n s gs m (Some g) h k = (record { line = h; entries = tt }, k)

  entry_after : (e : Entry) (gs : List Section) → EntryStands file e → Each (SectionStands file) gs →
      Each (SectionStands file) (with_entry e gs)
  entry_after e [] h k = tt
  entry_after e (g ∷ gs) h k =
      (record { line = k.0.line; entries = each_append (EntryStands file) g.entries (e ∷ []) k.0.entries (h, tt) }, k.1)

  line_after : (n s : ℕ) (l : List ℕ) {ls : List (List ℕ)} (gs : List Section) → is_line file n ≡ true →
      FirstLine (drop s file) l ls → Each (SectionStands file) gs → Each (SectionStands file) (after_line d n s l gs)
  unfolding afterFor
  line_after n s l gs h f k = go (line_of d l) refl
    where
      go : (x : Line) → line_of d l ≡ x → Each (SectionStands file) (afterFor d n s (value_start d l) x gs)
      go blank e = k
      go comment e = k
      go (broken b) e = k
      go (header m) e = group_after n s gs m (group_of d m) h k
      go (setting key v) e =
          entry_after (record { key = key; value = v; line = n; start = s + value_start d l }) gs (line_entry n s l h f e) k

  grown_stands : (n s : ℕ) (gs : List Section) (ls : List (List ℕ)) → 1 ≤ n →
      n + length ls ≡ suc (length (lines file)) → lines (drop s file) ≡ ls → Each (SectionStands file) gs →
      Each (SectionStands file) (grown d n s gs ls)
  unfolding grown
  grown_stands n s gs [] h q e k = k
  grown_stands n s gs (l ∷ ls) h q e k =
      let f = first_line_lem (drop s file) e in
      let i : s + suc (length l) ≡ s + length l + 1 = omega arith in
      let next : lines (drop (s + length l + 1) file) ≡ ls = sym (ap (λ (j : ℕ). lines (drop j file)) i) ∙ sym (ap lines (drop-drop (suc (length l)) s file)) ∙ f.rest in
      grown_stands (suc n) (s + length l + 1) (after_line d n s l gs) ls (omega arith) (omega (arith, q)) next (line_after n s l gs (inside {x = n} 1 (length (lines file)) h (omega (arith, q))) f k)

  pub sections_stand : Each (SectionStands file) (sections_of d file)
  unfolding sections_of
  sections_stand =
      each_reverse (SectionStands file) (grown d 1 0 [] (lines file)) (grown_stands 1 0 [] (lines file) (omega arith) (omega arith) refl tt)

  -- ---- a setting that is asked for

  entry_stands : (key : List ℕ) (es : List Entry) → Each (EntryStands file) es →
      IfSome (EntryStands file) (entry_of key es)
  entry_stands key [] h = tt
  entry_stands key (x ∷ es) h = go (same key x.key) (entry_stands key es h.1)
    where
      go : (b : Bool) → IfSome (EntryStands file) (entry_of key es) →
          IfSome (EntryStands file) (cond b (Some x) (entry_of key es))
      go true k = h.0
      go false k = k

  named_stand : (group : List ℕ) (gs : List Section) → Each (SectionStands file) gs →
      Each (EntryStands file) (entries_in group gs)
  named_stand group [] h = tt
  named_stand group (g ∷ gs) h = go (same group g.name) (named_stand group gs h.1)
    where
      go : (b : Bool) → Each (EntryStands file) (entries_in group gs) →
          Each (EntryStands file) (cond b g.entries (entries_in group gs))
      go true k = h.0.entries
      go false k = k

  numbered_stand : (w : ℕ) (gs : List Section) → Each (SectionStands file) gs → Each (EntryStands file) (service_at w gs)
  numbered_stand zero gs h = tt
  numbered_stand (suc n) [] h = tt
  numbered_stand (suc n) (g ∷ gs) h =
      go (serves g.group) n (numbered_stand n gs h.1) (numbered_stand (suc n) gs h.1)
    where
      go : (b : Bool) (n : ℕ) → Each (EntryStands file) (service_at n gs) →
          Each (EntryStands file) (service_at (suc n) gs) →
          Each (EntryStands file) (cond b (first_or n g.entries (service_at n gs)) (service_at (suc n) gs))
      go true zero k i = h.0.entries
      go true (suc m) k i = k
      go false n k i = i

  -- by its key, in the group with a name and in service w
  pub group_stands : (group key : List ℕ) →
      IfSome (EntryStands file) (entry_of key (entries_in group (sections_of d file)))
  group_stands group key =
      entry_stands key (entries_in group (sections_of d file)) (named_stand group (sections_of d file) sections_stand)

  pub service_stands : (w : ℕ) (key : List ℕ) →
      IfSome (EntryStands file) (entry_of key (service_at w (sections_of d file)))
  service_stands w key =
      entry_stands key (service_at w (sections_of d file)) (numbered_stand w (sections_of d file) sections_stand)
