-- `lines` and `line_of` keep to the rules for a line: a line reads as what it is by its bytes, and as nothing else.
use Rattle.std.specs.Prelude.{ℕ, ◌≡◌, Bool, ◌&&◌}
use Rattle.std.proofs.Common.{arith, ap, ap₂, sym, ◌∙◌, eqb-true}
use Rattle.std.proofs.Math.Path.{refl}
use Rattle.std.proofs.Math.Bool.{true, false, cond, not, and-false, true≢false}
use Rattle.std.proofs.lemmas.Bool.{false≢true, not-true}
use mathlib.Core.List.{List, [], ◌∷◌, ◌++◌, map, append-nil}
use Rattle.std.proofs.Math.Dec.{eqb}
use Rattle.text.specs.Bytes.{in_line, is_blank, is_header_byte, is_key_byte}
use Rattle.text.specs.Parts.{front, after, all, empty, trimmed, onto, lines}
use Rattle.text.specs.Laws.{and_true, all_cons, pass_other, front_append, after_append, lines_append}
use Rattle.text.specs.RunLaws.{front_all, front_after, after_all, after_stop, cons_nil, some_empty, empty_some}
use Rattle.text.specs.Relations.{Pairwise}
use Rattle.text.specs.declared.Dialect.{Dialect}
use Rattle.text.specs.declared.Dialect.TheVariants.{Iwd, ConnMan}
use Rattle.lines.specs.Lines.{Line, blank, comment, header, setting, broken, begins, extends, closed, bracket_of, ended, equal_of, setting_of, body_of, line_of}
use Rattle.lines.specs.Laws.{no_key}
use Rattle.lines.specs.LineRules.{LinesOf, no_line, ended_line, last_line, Whitespace, Indented, StartsWith, CommentLine, HeaderLine, ExtensionLine, NoLeadingBlank, NoTrailingBlank, Trimmed, ValueEnds, SettingLine, LineReads, FileLines}
use Rattle.lines.specs.declared.Break.TheVariants.{Unrecognized, Extension, BadHeader}

-- ---- what stands behind the leading whitespace is one text

tight_after : (s : List ℕ) → NoLeadingBlank (after is_blank s)
tight_after s = go (after is_blank s) refl
  where
    go : (t : List ℕ) → after is_blank s ≡ t → NoLeadingBlank t
    go [] e = tt
    go (c ∷ t) e = after_stop is_blank s c t e

white_after : (a s : List ℕ) → Whitespace a → NoLeadingBlank s → after is_blank (a ++ s) ≡ s
white_after a [] w t = rw (append-nil a) (after_all is_blank a w)
white_after a (c ∷ s) w t = after_append is_blank a c s w t

indented_after : (s l : List ℕ) → Indented s l → NoLeadingBlank s → after is_blank l ≡ s
indented_after s l b t = ap (after is_blank) b.is ∙ white_after b.indent s b.white t

after_indented : (l : List ℕ) → Indented (after is_blank l) l
after_indented l = record { indent = front is_blank l; white = front_all is_blank l; is = sym (front_after is_blank l) }

indented_line : (d : Dialect) (s l : List ℕ) → Indented s l → NoLeadingBlank s → line_of d l ≡ body_of d s
unfolding line_of
indented_line d s l b t = ap (body_of d) (indented_after s l b t)

-- ---- the value's end

tail_closed : (x : ℕ) (v : List ℕ) → NoTrailingBlank (x ∷ v) → NoTrailingBlank v
tail_closed x v c s z e = c (x ∷ s) z (ap (λ (t : List ℕ). x ∷ t) e)

closed_white : (x : ℕ) (v r : List ℕ) → NoTrailingBlank (x ∷ v) → is_blank x && all is_blank (v ++ r) ≡ false
closed_white x [] r c = rw (c [] x refl)
closed_white x (y ∷ v) r c =
    ap (λ (b : Bool). is_blank x && b) (closed_white y v r (tail_closed x (y ∷ v) c)) ∙ and-false (is_blank x)

white_trimmed : (s : List ℕ) → Whitespace s → trimmed s ≡ []
white_trimmed [] w = refl
white_trimmed (x ∷ s) w = rw w

closed_trimmed : (v trail : List ℕ) → Whitespace trail → NoTrailingBlank v → trimmed (v ++ trail) ≡ v
closed_trimmed [] trail w c = white_trimmed trail w
closed_trimmed (x ∷ v) trail w c =
    rw (closed_white x v trail c) (ap (λ (t : List ℕ). x ∷ t) (closed_trimmed v trail w (tail_closed x v c)))

value_ended : (d : Dialect) (v rest : List ℕ) → ValueEnds d v rest → ended d rest ≡ v
value_ended Iwd v rest e = sym e
value_ended ConnMan v rest e = ap trimmed e.is ∙ closed_trimmed v e.trail e.white e.closed

trimmed_white : (s : List ℕ) → trimmed s ≡ [] → Whitespace s
trimmed_white [] e = refl
trimmed_white (x ∷ s) e = go (is_blank x && all is_blank s) refl e
  where
    go : (b : Bool) → is_blank x && all is_blank s ≡ b → cond b [] (x ∷ trimmed s) ≡ [] →
        is_blank x && all is_blank s ≡ true
    go true q e = q
    go false q e = absurd (cons_nil x (trimmed s) e)

closed_none : NoTrailingBlank []
closed_none [] c e = absurd (cons_nil c [] (sym e))
closed_none (x ∷ s) c e = absurd (cons_nil x (s ++ (c ∷ [])) (sym e))

closed_more : (x : ℕ) (s : List ℕ) →
    is_blank x && all is_blank s ≡ false → NoTrailingBlank (trimmed s) → NoTrailingBlank (x ∷ trimmed s)
closed_more x s q c [] y e =
    let p : x ≡ y = cc in
    let t : trimmed s ≡ [] = cc in
    go (is_blank x) refl (trimmed_white s t) p
  where
    go : (b : Bool) → is_blank x ≡ b → Whitespace s → x ≡ y → is_blank y ≡ false
    go true i w p = absurd (true≢false (sym (ap₂ ◌&&◌ i w) ∙ q))
    go false i w p = ap is_blank (sym p) ∙ i
closed_more x s q c (z ∷ t) y e = c t y (cc)

trimmed_is : (s : List ℕ) → Trimmed (trimmed s) s
trimmed_is [] = record { trail = []; white = refl; is = refl; closed = closed_none }
trimmed_is (x ∷ s) = go (is_blank x && all is_blank s) refl (trimmed_is s)
  where
    go : (b : Bool) → is_blank x && all is_blank s ≡ b → Trimmed (trimmed s) s →
        Trimmed (cond b [] (x ∷ trimmed s)) (x ∷ s)
    go true q h = record { trail = x ∷ s; white = q; is = refl; closed = closed_none }
    go false q h = record {
      trail = h.trail;
      white = h.white;
      is = ap (λ (t : List ℕ). x ∷ t) h.is;
      closed = closed_more x s q h.closed;
    }

ended_value : (d : Dialect) (rest : List ℕ) → ValueEnds d (ended d rest) rest
ended_value Iwd rest = refl
ended_value ConnMan rest = trimmed_is rest

-- ---- a line of a form reads as that

white_line : (d : Dialect) (l : List ℕ) → Whitespace l → line_of d l ≡ blank
unfolding line_of
white_line d l w = ap (body_of d) (after_all is_blank l w)

comment_line : (d : Dialect) (l : List ℕ) → CommentLine l → line_of d l ≡ comment
comment_line d l o = indented_line d (35 ∷ o.0) l o.1 refl

bracket_line : (d : Dialect) (s l : List ℕ) → Indented (91 ∷ s) l → line_of d l ≡ bracket_of d s
bracket_line d s l b = indented_line d (91 ∷ s) l b refl

module _ (d : Dialect) (s l : List ℕ) (b : Indented (91 ∷ s) l) where
  extends_is : extends d s ≡ true → ExtensionLine d l
  extends_is = go d s b
    where
      go : (d : Dialect) (s : List ℕ) → Indented (91 ∷ s) l → extends d s ≡ true → ExtensionLine d l
      go ConnMan s b e = false≢true e
      go Iwd [] b e = absurd (false≢true e)
      go Iwd (c ∷ s) b e = let q : c ≡ 64 = eqb-true c 64 e in (s, rw q at b)

  is_extends : ExtensionLine d l → extends d s ≡ true
  is_extends = go d
    where
      go : (d : Dialect) → ExtensionLine d l → extends d s ≡ true
      go ConnMan x = absurd x
      go Iwd x =
          let q : 91 ∷ s ≡ 91 ∷ 64 ∷ x.0 = sym (indented_after (91 ∷ s) l b refl) ∙ indented_after (91 ∷ 64 ∷ x.0) l x.1 refl in
          let r : s ≡ 64 ∷ x.0 = cc in
          ap (begins 64) r

  not_extends : ¬ ExtensionLine d l → extends d s ≡ false
  not_extends n = go (extends d s) refl
    where
      go : (t : Bool) → extends d s ≡ t → t ≡ false
      go true e = absurd (n (extends_is e))
      go false e = refl

extension_line : (d : Dialect) (l : List ℕ) → ExtensionLine d l → line_of d l ≡ broken Extension
unfolding bracket_of
extension_line ConnMan l x = absurd x
extension_line Iwd l x = bracket_line Iwd (64 ∷ x.0) l x.1

header_line : (d : Dialect) (n l : List ℕ) → HeaderLine n l → ¬ ExtensionLine d l → line_of d l ≡ header n
unfolding bracket_of
header_line d n l h x =
    bracket_line d (n ++ 93 ∷ h.trail) l h.is
    ∙ rw (
      not_extends d (n ++ 93 ∷ h.trail) l h.is x,
      front_append is_header_byte n 93 h.trail h.bytes refl,
      after_append is_header_byte n 93 h.trail h.bytes refl,
      some_empty n h.some,
      h.white,
    )

key_not_blank : (d : Dialect) (x : ℕ) → is_key_byte d x ≡ true → is_blank x ≡ false
key_not_blank d x p = rw (pass_other (is_key_byte d) 32 (no_key d).0 x p, pass_other (is_key_byte d) 9 (no_key d).1 x p)

blank_not_key : (d : Dialect) (x : ℕ) → is_blank x ≡ true → is_key_byte d x ≡ false
blank_not_key d x b = go (is_key_byte d x) refl
  where
    go : (t : Bool) → is_key_byte d x ≡ t → t ≡ false
    go true e = absurd (true≢false (sym b ∙ key_not_blank d x e))
    go false e = refl

key_line : (d : Dialect) (k r l : List ℕ) →
    ¬ (k ≡ []) → all (is_key_byte d) k ≡ true → Indented (k ++ r) l → line_of d l ≡ setting_of d (k ++ r)
key_line d [] r l n h b = absurd (n refl)
key_line d (x ∷ k) r l n h b =
    let p : is_key_byte d x ≡ true = (all_cons (is_key_byte d) x k h).0 in
    indented_line d (x ∷ k ++ r) l b (key_not_blank d x p)
    ∙ rw (pass_other (is_key_byte d) 35 (no_key d).2 x p, pass_other (is_key_byte d) 91 (no_key d).3 x p)

key_equal : (d : Dialect) (k gap s : List ℕ) →
    all (is_key_byte d) k ≡ true → Whitespace gap → setting_of d (k ++ (gap ++ 61 ∷ s)) ≡ equal_of d k (61 ∷ s)
unfolding setting_of
key_equal d k [] s h w =
    rw (front_append (is_key_byte d) k 61 s h (no_key d).4, after_append (is_key_byte d) k 61 s h (no_key d).4)
key_equal d k (g ∷ gap) s h w =
    let n : is_key_byte d g ≡ false = blank_not_key d g (all_cons is_blank g gap w).0 in
    ap₂ (equal_of d)
    (front_append (is_key_byte d) k g (gap ++ 61 ∷ s) h n)
    (ap (after is_blank) (after_append (is_key_byte d) k g (gap ++ 61 ∷ s) h n) ∙ white_after (g ∷ gap) (61 ∷ s) w refl)

setting_line : (d : Dialect) (k v l : List ℕ) → SettingLine d k v l → line_of d l ≡ setting k v
setting_line d k v l h =
    key_line d k (h.gap ++ 61 ∷ (h.next ++ h.rest)) l h.some h.bytes h.is
    ∙ key_equal d k h.gap (h.next ++ h.rest) h.bytes h.gap_white
    ∙ rw (some_empty k h.some, white_after h.next h.rest h.next_white h.tight, value_ended d v h.rest h.ends)

-- ---- what a line reads as, it is

bracket_known : (d : Dialect) (s : List ℕ) → ¬ (bracket_of d s ≡ broken Unrecognized)
unfolding bracket_of
bracket_known d s e =
    go (extends d s) (not (empty (front is_header_byte s)) && closed (after is_header_byte s)) (front is_header_byte s) e
  where
    go : (a b : Bool) (n : List ℕ) →
        ¬ (cond a (broken Extension) (cond b (header n) (broken BadHeader)) ≡ broken Unrecognized)
    go true b n e = let z : ◌≡◌ {A = ℕ} 0 1 = cc in omega arith
    go false true n e = let z : ◌≡◌ {A = ℕ} 0 1 = cc in omega arith
    go false false n e = let z : ◌≡◌ {A = ℕ} 0 1 = cc in omega arith

-- a line reads as one thing
apart : (d : Dialect) (l : List ℕ) {x y : Line} → line_of d l ≡ x → line_of d l ≡ y → x ≡ y
apart d l p q = sym p ∙ q

unrecognized_reads : (d : Dialect) (l : List ℕ) → line_of d l ≡ broken Unrecognized → LineReads d l (broken Unrecognized)
unrecognized_reads d l e = (
  (λ o. bracket_known d o.0 (sym (bracket_line d o.0 l o.1) ∙ e)),
  (λ w. let q = apart d l (white_line d l w) e in let z : ◌≡◌ {A = ℕ} 0 1 = cc in omega arith),
  (λ o. let q = apart d l (comment_line d l o) e in let z : ◌≡◌ {A = ℕ} 0 1 = cc in omega arith),
  (λ k v h. let q = apart d l (setting_line d k v l h) e in let z : ◌≡◌ {A = ℕ} 0 1 = cc in omega arith),
)

header_is : (n r l : List ℕ) →
    all is_header_byte n ≡ true → Indented (91 ∷ n ++ r) l → not (empty n) ≡ true → closed r ≡ true → HeaderLine n l
header_is n [] l h b e c = absurd (false≢true c)
header_is n (y ∷ r) l h b e c =
    let p = and_true (eqb y 93) (all is_blank r) c in
    let q : y ≡ 93 = eqb-true y 93 p.0 in
    record { trail = r; some = empty_some n e; bytes = h; white = p.1; is = rw q at b }

module _ (d : Dialect) (s l : List ℕ) (b : Indented (91 ∷ s) l) where
  -- whether a header stands behind the bracket
  abbrev headed : Bool
  headed = not (empty (front is_header_byte s)) && closed (after is_header_byte s)

  headed_is : headed ≡ true → HeaderLine (front is_header_byte s) l
  headed_is e =
      let p = and_true (not (empty (front is_header_byte s))) (closed (after is_header_byte s)) e in
      header_is (front is_header_byte s) (after is_header_byte s) l (front_all is_header_byte s) (rw (front_after is_header_byte s) b) p.0 p.1

  bad_header_reads : ¬ ExtensionLine d l → line_of d l ≡ broken BadHeader → LineReads d l (broken BadHeader)
  bad_header_reads x e = (
    (s, b),
    x,
    λ n h. let q = apart d l (header_line d n l h x) e in let z : ◌≡◌ {A = ℕ} 0 1 = cc in omega arith,
  )

  bracket_reads : LineReads d l (bracket_of d s)
  unfolding bracket_of
  bracket_reads = go (extends d s) refl headed refl (bracket_line d s l b)
    where
      not_is : extends d s ≡ false → ¬ ExtensionLine d l
      not_is x k = true≢false (sym (is_extends d s l b k) ∙ x)

      go : (a : Bool) → extends d s ≡ a → (c : Bool) → headed ≡ c →
          line_of d l ≡ cond a (broken Extension) (cond c (header (front is_header_byte s)) (broken BadHeader)) →
          LineReads d l (cond a (broken Extension) (cond c (header (front is_header_byte s)) (broken BadHeader)))
      go true x c h e = extends_is d s l b x
      go false x true h e = (headed_is h, not_is x)
      go false x false h e = bad_header_reads (not_is x) e

  bad_bracket : ¬ ExtensionLine d l → ((n : List ℕ) → ¬ HeaderLine n l) → bracket_of d s ≡ broken BadHeader
  unfolding bracket_of
  bad_bracket x n = rw (not_extends d s l b x) (go headed refl)
    where
      go : (c : Bool) → headed ≡ c → cond c (header (front is_header_byte s)) (broken BadHeader) ≡ broken BadHeader
      go true h = absurd (n (front is_header_byte s) (headed_is h))
      go false h = refl

module _ (d : Dialect) (s l : List ℕ) (b : Indented s l) where
  -- the key, and what stands behind it and its whitespace
  abbrev key : List ℕ
  key = front (is_key_byte d) s

  abbrev behind : List ℕ
  behind = after is_blank (after (is_key_byte d) s)

  setting_parts : (y : ℕ) (q : List ℕ) → behind ≡ y ∷ q → y ≡ 61 →
      key ++ (front is_blank (after (is_key_byte d) s) ++ 61 ∷ (front is_blank q ++ after is_blank q)) ≡ s
  setting_parts y q e i =
      rw (front_after is_blank q, ← i, ← e, front_after is_blank (after (is_key_byte d) s)) (front_after (is_key_byte d) s)

  setting_is : (y : ℕ) (q : List ℕ) → behind ≡ y ∷ q → not (empty key) && eqb y 61 ≡ true →
      SettingLine d key (ended d (after is_blank q)) l
  setting_is y q i h =
      let p = and_true (not (empty key)) (eqb y 61) h in
      record {
        gap = front is_blank (after (is_key_byte d) s);
        next = front is_blank q;
        rest = after is_blank q;
        some = empty_some key p.0;
        bytes = front_all (is_key_byte d) s;
        gap_white = front_all is_blank (after (is_key_byte d) s);
        next_white = front_all is_blank q;
        tight = tight_after q;
        is = rw (setting_parts y q i (eqb-true y 61 p.1)) b;
        ends = ended_value d (after is_blank q);
      }

  setting_reads : line_of d l ≡ setting_of d s → LineReads d l (setting_of d s)
  unfolding setting_of
  setting_reads = go behind refl
    where
      go_on : (y : ℕ) (q : List ℕ) → behind ≡ y ∷ q → (c : Bool) → not (empty key) && eqb y 61 ≡ c →
          line_of d l ≡ cond c (setting key (ended d (after is_blank q))) (broken Unrecognized) →
          LineReads d l (cond c (setting key (ended d (after is_blank q))) (broken Unrecognized))
      go_on y q i true h e = setting_is y q i h
      go_on y q i false h e = unrecognized_reads d l e

      go : (t : List ℕ) → behind ≡ t → line_of d l ≡ equal_of d key t → LineReads d l (equal_of d key t)
      go [] i e = unrecognized_reads d l e
      go (y ∷ q) i e = go_on y q i (not (empty key) && eqb y 61) refl e

body_reads : (d : Dialect) (s l : List ℕ) → Indented s l → line_of d l ≡ body_of d s → LineReads d l (body_of d s)
body_reads d [] l b e = rw (b.is, append-nil b.indent) b.white
body_reads d (c ∷ r) l b e = go (eqb c 35) refl (eqb c 91) refl e
  where
    go : (t : Bool) → eqb c 35 ≡ t → (u : Bool) → eqb c 91 ≡ u →
        line_of d l ≡ cond t comment (cond u (bracket_of d r) (setting_of d (c ∷ r))) →
        LineReads d l (cond t comment (cond u (bracket_of d r) (setting_of d (c ∷ r))))
    go true p u q e = let i : c ≡ 35 = eqb-true c 35 p in (r, rw i at b)
    go false p true q e = let i : c ≡ 91 = eqb-true c 91 q in bracket_reads d r l (rw i at b)
    go false p false q e = setting_reads d (c ∷ r) l b e

-- ---- both ways

pub line_reads : (d : Dialect) (l : List ℕ) → LineReads d l (line_of d l)
unfolding line_of
line_reads d l = body_reads d (after is_blank l) l (after_indented l) refl

extension_starts : (d : Dialect) (l : List ℕ) → ExtensionLine d l → StartsWith "[" l
extension_starts Iwd l x = (64 ∷ x.0, x.1)
extension_starts ConnMan l x = absurd x

unrecognized_line : (d : Dialect) (l : List ℕ) → LineReads d l (broken Unrecognized) →
    (x : Line) → LineReads d l x → x ≡ broken Unrecognized
unrecognized_line d l h blank k = absurd (h.1 k)
unrecognized_line d l h comment k = absurd (h.2 k)
unrecognized_line d l h (header n) k = absurd (h.0 (n ++ 93 ∷ k.0.trail, k.0.is))
unrecognized_line d l h (setting j v) k = absurd (h.3 j v k)
unrecognized_line d l h (broken Unrecognized) k = refl
unrecognized_line d l h (broken Extension) k = absurd (h.0 (extension_starts d l k))
unrecognized_line d l h (broken BadHeader) k = absurd (h.0 k.0)

pub reads_line : (d : Dialect) (l : List ℕ) (x : Line) → LineReads d l x → line_of d l ≡ x
reads_line d l blank h = white_line d l h
reads_line d l comment h = comment_line d l h
reads_line d l (header n) h = header_line d n l h.0 h.1
reads_line d l (setting k v) h = setting_line d k v l h
reads_line d l (broken Unrecognized) h = unrecognized_line d l h (line_of d l) (line_reads d l)
reads_line d l (broken Extension) h = extension_line d l h
reads_line d l (broken BadHeader) h =
    bracket_line d h.0.0 l h.0.1 ∙ bad_bracket d h.0.0 l h.0.1 h.1 h.2

-- ---- the lines of a file are one list

lines_last : (l : List ℕ) → all in_line l ≡ true → ¬ (l ≡ []) → lines l ≡ l ∷ []
lines_last [] h n = absurd (n refl)
lines_last (x ∷ []) h n = rw (not-true (eqb x 10) (all_cons in_line x [] h).0)
lines_last (x ∷ y ∷ l) h n =
    let k = all_cons in_line x (y ∷ l) h in
    rw (not-true (eqb x 10) k.0, lines_last (y ∷ l) k.1 (cons_nil y l))

lines_split : {file : List ℕ} {ls : List (List ℕ)} → LinesOf file ls → lines file ≡ ls
lines_split no_line = refl
lines_split (ended_line l rest h k) = lines_append l rest h ∙ ap (λ (r : List (List ℕ)). l ∷ r) (lines_split k)
lines_split (last_line l h n) = lines_last l h n

onto_split : (x : ℕ) {s : List ℕ} {ls : List (List ℕ)} → eqb x 10 ≡ false → LinesOf s ls → LinesOf (x ∷ s) (onto x ls)
onto_split x e no_line = last_line (x ∷ []) (rw e) (cons_nil x [])
onto_split x e (ended_line l rest h k) = ended_line (x ∷ l) rest (rw e h) k
onto_split x e (last_line l h n) = last_line (x ∷ l) (rw e h) (cons_nil x l)

split_lines : (file : List ℕ) → LinesOf file (lines file)
split_lines [] = no_line
split_lines (x ∷ s) = go (eqb x 10) refl (split_lines s)
  where
    go : (b : Bool) → eqb x 10 ≡ b → LinesOf s (lines s) → LinesOf (x ∷ s) (cond b ([] ∷ lines s) (onto x (lines s)))
    go true e k = let q : x ≡ 10 = eqb-true x 10 e in rw q (ended_line [] s refl k)
    go false e k = onto_split x e k

each_reads : (d : Dialect) (ls : List (List ℕ)) → Pairwise (LineReads d) ls (map (line_of d) ls)
each_reads d [] = tt
each_reads d (l ∷ ls) = (line_reads d l, each_reads d ls)

reads_each : (d : Dialect) (ls : List (List ℕ)) (xs : List Line) → Pairwise (LineReads d) ls xs → map (line_of d) ls ≡ xs
reads_each d [] [] h = refl
reads_each d [] (x ∷ xs) h = absurd h
reads_each d (l ∷ ls) [] h = absurd h
reads_each d (l ∷ ls) (x ∷ xs) h = ap₂ ◌∷◌ (reads_line d l x h.0) (reads_each d ls xs h.1)

pub file_lines : (d : Dialect) (file : List ℕ) → FileLines d file (map (line_of d) (lines file))
file_lines d file = record { texts = lines file; split = split_lines file; each = each_reads d (lines file) }

pub lines_file : (d : Dialect) (file : List ℕ) (ls : List Line) → FileLines d file ls → map (line_of d) (lines file) ≡ ls
lines_file d file ls h = ap (map (line_of d)) (lines_split h.split) ∙ reads_each d h.texts ls h.each
