-- The groups that the reading keeps stand in the lines that it has read, one after the other: what it asks of the groups
-- is asked of the lines.
use Rattle.std.specs.Prelude.{ℕ, suc, ◌+◌, ◌≡◌, refl, Bool, true, false, cond, List, [], ◌∷◌, ◌++◌, ◌⊎◌, leb, length, Option, None, Some}
use Rattle.std.proofs.Common.{arith, ap, ap₂, sym, ◌∙◌, subst, true≢false, append_assoc, append-nil, inl, inr, leb-true, le-leb}
use Rattle.std.proofs.lemmas.Option.{none-some}
use Rattle.text.specs.Relations.{Each, Any}
use Rattle.text.specs.RelationLaws.{each_append, each_weaken, some_left, some_right, some_either}
use Rattle.text.specs.Occurrences.{Count, count_end, count_one, count_other}
use Rattle.text.specs.OccurrenceLaws.{count_unique, count_none, count_append}
use Rattle.text.specs.Decides.{Decides, holds, fails, decides, decides_alike, decides_or, same_decides}
use Rattle.text.specs.declared.Dialect.{Dialect}
use Rattle.kinds.specs.Typed.{judged}
use Rattle.kinds.specs.declared.Kind.{Kind}
use Rattle.lines.specs.Lines.{Line, blank, comment, header, setting, broken}
use Rattle.rules.specs.Tables.{group_of, kind_of}
use Rattle.rules.specs.Sections.{Entry, Section, given, name_given, services, with_group, with_line, settings}
use Rattle.rules.specs.Faults.{break_of, header_fault, value_fault, key_fault, fault}
use Rattle.rules.specs.GroupKeys.{GroupIs}
use Rattle.rules.specs.LineOrder.{SettingThat, IsHeader, NamesGroup, ServiceHeader, IsSetting, EightServices}
use Rattle.rules.proofs.TableLaws.{serves_tells}
use Rattle.rules.proofs.HereLaws.{that_header, headless}
use Rattle.rules.specs.declared.Group.{Group}
use Rattle.rules.specs.declared.Group.TheVariants.{Service}
use Rattle.rules.specs.declared.Refusal.TheVariants as R

-- ---- keys and values

abbrev pub KeyValue : Type 0
KeyValue = List ℕ × List ℕ

abbrev pub entry_pairs : List Entry → List KeyValue
entry_pairs [] = []
entry_pairs (e ∷ es) = (e.key, e.value) ∷ entry_pairs es

abbrev pub line_pairs : List Line → List KeyValue
line_pairs [] = []
line_pairs (blank ∷ ls) = line_pairs ls
line_pairs (comment ∷ ls) = line_pairs ls
line_pairs (header n ∷ ls) = line_pairs ls
line_pairs (setting k v ∷ ls) = (k, v) ∷ line_pairs ls
line_pairs (broken b ∷ ls) = line_pairs ls

abbrev pub KeyIn : List ℕ → List KeyValue → Type 0
KeyIn k ps = Any (λ p. k ≡ p.0) ps

-- no key is given twice
abbrev pub Once : List KeyValue → Type 0
Once [] = Unit
Once (p ∷ ps) = (¬ KeyIn p.0 ps) × Once ps

-- a setting among the lines is one among their pairs
module _ (P : List ℕ → List ℕ → Type 0) where
  pub pairs_some : (ls : List Line) → Any (λ p. P p.0 p.1) (line_pairs ls) → Any (SettingThat P) ls
  pairs_some [] h = h
  pairs_some (blank ∷ ls) h = inr (pairs_some ls h)
  pairs_some (comment ∷ ls) h = inr (pairs_some ls h)
  pairs_some (header n ∷ ls) h = inr (pairs_some ls h)
  pairs_some (broken b ∷ ls) h = inr (pairs_some ls h)
  pairs_some (setting k v ∷ ls) (inl h) = inl h
  pairs_some (setting k v ∷ ls) (inr h) = inr (pairs_some ls h)

  setting_pairs : (l : Line) (ls : List Line) → SettingThat P l → Any (λ p. P p.0 p.1) (line_pairs (l ∷ ls))
  setting_pairs blank ls h = absurd h
  setting_pairs comment ls h = absurd h
  setting_pairs (header n) ls h = absurd h
  setting_pairs (broken b) ls h = absurd h
  setting_pairs (setting k v) ls h = inl h

  more_pairs : (l : Line) (ls : List Line) →
      Any (λ p. P p.0 p.1) (line_pairs ls) → Any (λ p. P p.0 p.1) (line_pairs (l ∷ ls))
  more_pairs blank ls h = h
  more_pairs comment ls h = h
  more_pairs (header n) ls h = h
  more_pairs (broken b) ls h = h
  more_pairs (setting k v) ls h = inr h

  pub some_pairs : (ls : List Line) → Any (SettingThat P) ls → Any (λ p. P p.0 p.1) (line_pairs ls)
  some_pairs [] h = h
  some_pairs (l ∷ ls) (inl h) = setting_pairs l ls h
  some_pairs (l ∷ ls) (inr h) = more_pairs l ls (some_pairs ls h)

  pub pairs_tell : (es : List Entry) (ls : List Line) → entry_pairs es ≡ line_pairs ls → {b : Bool} →
      Decides (Any (λ p. P p.0 p.1) (entry_pairs es)) b → Decides (Any (SettingThat P) ls) b
  pairs_tell es ls q t = decides_alike (pairs_some ls) (some_pairs ls) (rw q at t)

pub given_tells : (k : List ℕ) (es : List Entry) → Decides (KeyIn k (entry_pairs es)) (given k es)
given_tells k [] = fails (λ z. z)
given_tells k (e ∷ es) = decides_or (same_decides k e.key) (given_tells k es)

line_pairs_append : (a b : List Line) → line_pairs (a ++ b) ≡ line_pairs a ++ line_pairs b
line_pairs_append [] b = refl
line_pairs_append (blank ∷ a) b = line_pairs_append a b
line_pairs_append (comment ∷ a) b = line_pairs_append a b
line_pairs_append (header n ∷ a) b = line_pairs_append a b
line_pairs_append (setting k v ∷ a) b = ap (λ (r : List KeyValue). (k, v) ∷ r) (line_pairs_append a b)
line_pairs_append (broken c ∷ a) b = line_pairs_append a b

entry_pairs_append : (es : List Entry) (e : Entry) →
    entry_pairs (es ++ (e ∷ [])) ≡ entry_pairs es ++ ((e.key, e.value) ∷ [])
entry_pairs_append [] e = refl
entry_pairs_append (x ∷ es) e = ap (λ (r : List KeyValue). (x.key, x.value) ∷ r) (entry_pairs_append es e)

once_append : (k v : List ℕ) (ps : List KeyValue) → Once ps → ¬ KeyIn k ps → Once (ps ++ ((k, v) ∷ []))
once_append k v [] o n = ((λ z. z), tt)
once_append k v (p ∷ ps) o n =
    ((λ h. go (some_either (λ (q : KeyValue). p.0 ≡ q.0) ps ((k, v) ∷ []) h)), once_append k v ps o.1 (λ h. n (inr h)))
  where
    go : KeyIn p.0 ps ⊎ ((p.0 ≡ k) ⊎ ⊥) → ⊥
    go (inl h) = o.0 h
    go (inr (inl e)) = n (inl (sym e))
    go (inr (inr z)) = z

-- ---- the groups stand in the lines

-- a group stands in the lines before: its header behind the earlier lines, and its settings since
pub record SectionRead (d : Dialect) (g : Section) (before earlier since : List Line) : Type 0 where
  pub is : before ≡ earlier ++ header g.name ∷ since
  pub latest : Each (λ l. ¬ IsHeader l) since
  pub grouped : group_of d g.name ≡ Some g.group
  pub entries : entry_pairs g.entries ≡ line_pairs since
  pub once : Once (line_pairs since)
  pub line : g.line ≡ suc (length earlier)

-- the groups, the latest first
abbrev pub SectionsRead : Dialect → List Section → List Line → Type 0
SectionsRead d [] before = Each (λ l. ¬ IsHeader l) before × (line_pairs before ≡ [])
SectionsRead d (g ∷ gs) before =
    (earlier : List Line) × (since : List Line) × SectionRead d g before earlier since × SectionsRead d gs earlier

pub named_tells : (d : Dialect) (gs : List Section) (before : List Line) → SectionsRead d gs before →
    (n : List ℕ) → Decides (Any (NamesGroup n) before) (name_given n gs)
named_tells d [] before s n = fails (headless (λ m. n ≡ m) before s.0)
named_tells d (g ∷ gs) before s n =
    rw s.2.is (decides_alike to from (decides_or (same_decides n g.name) (named_tells d gs s.0 s.3 n)))
  where
    to : (n ≡ g.name) ⊎ Any (NamesGroup n) s.0 → Any (NamesGroup n) (s.0 ++ header g.name ∷ s.1)
    to (inl e) = some_right (NamesGroup n) s.0 (header g.name ∷ s.1) (inl e)
    to (inr h) = some_left (NamesGroup n) s.0 (header g.name ∷ s.1) h

    sort : Any (NamesGroup n) s.0 ⊎ ((n ≡ g.name) ⊎ Any (NamesGroup n) s.1) →
        (n ≡ g.name) ⊎ Any (NamesGroup n) s.0
    sort (inl h) = inr h
    sort (inr (inl e)) = inl e
    sort (inr (inr h)) = absurd (headless (λ m. n ≡ m) s.1 s.2.latest h)

    from : Any (NamesGroup n) (s.0 ++ header g.name ∷ s.1) → (n ≡ g.name) ⊎ Any (NamesGroup n) s.0
    from h = sort (some_either (NamesGroup n) s.0 (header g.name ∷ s.1) h)

-- ---- counts

no_services : (d : Dialect) (ls : List Line) → Each (λ l. ¬ IsHeader l) ls → Count (ServiceHeader d) ls 0
no_services d ls h =
    count_none (ServiceHeader d) ls
    (each_weaken (λ l. ¬ IsHeader l) (λ l. ¬ ServiceHeader d l) (λ l n s. n (that_header (λ m. GroupIs d m Service) l s)) ls h)

pub services_count : (d : Dialect) (gs : List Section) (before : List Line) → SectionsRead d gs before →
    Count (ServiceHeader d) before (services gs)
services_count d [] before s = no_services d before s.0
services_count d (g ∷ gs) before s =
    rw s.2.is (go (serves_tells d g.name g.group s.2.grouped) (services_count d gs s.0 s.3))
  where
    rest : Count (ServiceHeader d) s.1 0
    rest = no_services d s.1 s.2.latest

    go : {b : Bool} → Decides (GroupIs d g.name Service) b → Count (ServiceHeader d) s.0 (services gs) →
        Count (ServiceHeader d) (s.0 ++ header g.name ∷ s.1) (cond b (suc (services gs)) (services gs))
    go (holds h) c =
        let q : suc (services gs) ≡ services gs + 1 = omega arith in
        rw q (count_append (ServiceHeader d) c (count_one h rest))
    go (fails h) c =
        let q : services gs ≡ services gs + 0 = omega arith in
        subst (Count (ServiceHeader d) (s.0 ++ header g.name ∷ s.1)) (sym q)
        (count_append (ServiceHeader d) c (count_other h rest))

pub eight_tells : (d : Dialect) (gs : List Section) (before : List Line) → SectionsRead d gs before →
    Decides (EightServices d before) (leb 8 (services gs))
eight_tells d gs before s =
    decides (leb 8 (services gs))
    (λ e. (services gs, services_count d gs before s, leb-true 8 (services gs) e))
    (λ (h : EightServices d before).
    let e : h.0 ≡ services gs = count_unique (ServiceHeader d) h.1 (services_count d gs before s) in
    le-leb 8 (services gs) (rw e at h.2))

pairs_count : (ls : List Line) → Count IsSetting ls (length (line_pairs ls))
pairs_count [] = count_end
pairs_count (blank ∷ ls) = count_other (λ z. z) (pairs_count ls)
pairs_count (comment ∷ ls) = count_other (λ z. z) (pairs_count ls)
pairs_count (header n ∷ ls) = count_other (λ z. z) (pairs_count ls)
pairs_count (setting k v ∷ ls) = count_one tt (pairs_count ls)
pairs_count (broken b ∷ ls) = count_other (λ z. z) (pairs_count ls)

pairs_long : (es : List Entry) → length (entry_pairs es) ≡ length es
pairs_long [] = refl
pairs_long (e ∷ es) = ap suc (pairs_long es)

pub settings_count : (d : Dialect) (gs : List Section) (before : List Line) → SectionsRead d gs before →
    Count IsSetting before (settings gs)
settings_count d [] before s = rw s.1 at (pairs_count before)
settings_count d (g ∷ gs) before s =
    let n : length (line_pairs s.1) ≡ length g.entries = ap length (sym s.2.entries) ∙ pairs_long g.entries in
    let q : length g.entries + settings gs ≡ settings gs + length g.entries = omega arith in
    rw (s.2.is, q)
    (count_append IsSetting (settings_count d gs s.0 s.3) (count_other (λ z. z) (rw n at (pairs_count s.1))))

-- ---- one line more

unrepeated : (d : Dialect) (k v : List ℕ) (o : Option Kind) (es : List Entry) → key_fault d k v o es ≡ None →
    given k es ≡ false
unrepeated d k v None es f = absurd (none-some R.UnknownKey (sym f))
unrepeated d k v (Some x) es f = go (given k es) f
  where
    go : (b : Bool) → cond b (Some R.RepeatedKey) (value_fault (judged d x v)) ≡ None → b ≡ false
    go true f = absurd (none-some R.RepeatedKey (sym f))
    go false f = refl

not_given : (k : List ℕ) (es : List Entry) → given k es ≡ false → ¬ KeyIn k (entry_pairs es)
not_given k es e h = go (given_tells k es) e
  where
    go : {b : Bool} → Decides (KeyIn k (entry_pairs es)) b → b ≡ false → ⊥
    go (holds i) e = true≢false e
    go (fails n) e = n h

-- a line that is no header stands in the latest group
module _ (d : Dialect) (before earlier since : List Line) (l : Line) (p : ¬ IsHeader l) where
  stands_more : (g h : Section) → h.name ≡ g.name → h.group ≡ g.group → h.line ≡ g.line →
      entry_pairs h.entries ≡ entry_pairs g.entries ++ line_pairs (l ∷ []) → Once (line_pairs since ++ line_pairs (l ∷ [])) →
      SectionRead d g before earlier since → SectionRead d h (before ++ (l ∷ [])) earlier (since ++ (l ∷ []))
  stands_more g h n o i e u a = record {
    is =
        ap (λ (r : List Line). r ++ (l ∷ [])) a.is
        ∙ append_assoc earlier (header g.name ∷ since) (l ∷ [])
        ∙ ap (λ (m : List ℕ). earlier ++ header m ∷ (since ++ (l ∷ []))) (sym n);
    latest = each_append (λ b. ¬ IsHeader b) since (l ∷ []) a.latest (p, tt);
    grouped = ap (group_of d) n ∙ a.grouped ∙ ap Some (sym o);
    entries = e ∙ ap (λ (r : List KeyValue). r ++ line_pairs (l ∷ [])) a.entries ∙ sym (line_pairs_append since (l ∷ []));
    once = rw (line_pairs_append since (l ∷ [])) u;
    line = i ∙ a.line;
  }

plain_more : (d : Dialect) (gs : List Section) (before : List Line) (l : Line) → ¬ IsHeader l →
    line_pairs (l ∷ []) ≡ [] →
    SectionsRead d gs before → SectionsRead d gs (before ++ (l ∷ []))
plain_more d [] before l p q s =
    (each_append (λ b. ¬ IsHeader b) before (l ∷ []) s.0 (p, tt), line_pairs_append before (l ∷ []) ∙ ap₂ ◌++◌ s.1 q)
plain_more d (g ∷ gs) before l p q s = (
  s.0,
  s.1 ++ (l ∷ []),
  stands_more d before s.0 s.1 l p g g refl refl refl
      (rw (q, append-nil (entry_pairs g.entries)))
      (rw (q, append-nil (line_pairs s.1)) s.2.once) s.2,
  s.3,
)

group_more : (d : Dialect) (gs : List Section) (before : List Line) (n : List ℕ) (l s : ℕ) (o : Option Group) →
    group_of d n ≡ o → l ≡ suc (length before) → header_fault n o gs ≡ None →
    SectionsRead d gs before → SectionsRead d (with_group n o l s gs) (before ++ (header n ∷ []))
group_more d gs before n l s None q i f h = absurd (none-some R.UnknownGroup (sym f))
group_more d gs before n l s (Some g) q i f h =
    (before, [], record { is = refl; latest = tt; grouped = q; entries = refl; once = tt; line = i }, h)

pub sections_more : (d : Dialect) (gs : List Section) (before : List Line) (n s at : ℕ) (l : Line) →
    n ≡ suc (length before) → fault d gs l ≡ None →
    SectionsRead d gs before → SectionsRead d (with_line d n s at l gs) (before ++ (l ∷ []))
unfolding fault with_line
sections_more d gs before n s at blank i f h = plain_more d gs before blank (λ z. z) refl h
sections_more d gs before n s at comment i f h = plain_more d gs before comment (λ z. z) refl h
sections_more d gs before n s at (broken b) i f h = absurd (none-some (break_of b) (sym f))
sections_more d gs before n s at (header m) i f h = group_more d gs before m n s (group_of d m) refl i f h
sections_more d [] before n s at (setting k v) i f h = absurd (none-some R.NoGroup (sym f))
sections_more d (g ∷ gs) before n s at (setting k v) i f h =
    let e : Entry = record { key = k; value = v; line = n; start = s + at } in
    let new = not_given k g.entries (unrepeated d k v (kind_of g.group k) g.entries f) in (
      h.0,
      h.1 ++ (setting k v ∷ []),
      stands_more d before h.0 h.1 (setting k v) (λ z. z) g
          (record { name = g.name; group = g.group; line = g.line; start = g.start; entries = g.entries ++ (e ∷ []) })
          refl refl refl (entry_pairs_append g.entries e)
          (once_append k v (line_pairs h.1) h.2.once (rw h.2.entries at new)) h.2,
      h.3,
    )
