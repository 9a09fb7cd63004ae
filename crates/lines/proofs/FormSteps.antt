-- A line by index: one law for each return of the code.
use mathlib.Core.Path.{◌≡◌, refl, ap, ap₂, sym, ◌∙◌}
use mathlib.Core.Bool.{Bool, true, false, cond, not, ◌&&◌, and-false}
use mathlib.Core.List.{List, ◌∷◌}
use Prim.Native.Nat.{ℕ, ◌+◌, ◌-◌, ◌≤◌, ◌<◌}
use native.Mathlib.Nat.{le_refl, zero-add}
use native.Mathlib.Omega.{arith}
use borrow.Author.Tests.{eq-eqb, ne_eqb}
use lib.Dec.{eqb}
use lib.ListN.{length, get_or, drop, length-drop}
use lib.Seq.{take_all}
use Rattle.text.specs.Bytes.{is_blank, is_header_byte, is_key_byte}
use Rattle.text.specs.Parts.{lead, after, all, part, empty}
use Rattle.text.specs.Laws.{view_end, view_more, part_none, part_some, part_long}
use Rattle.text.specs.Scans.{Stop, Trim}
use Rattle.text.proofs.ScanLaws.{stop_front, stop_after, stop_low, stop_all, stop_some}
use Rattle.text.specs.declared.Dialect.{Dialect}
use Rattle.text.specs.declared.Dialect.TheVariants.{Iwd, ConnMan}
use Rattle.lines.specs.Lines.{Line, comment, header, setting, broken, closed, header_of, bracket_of, ended, equal_of, setting_of, body_of, line_of}
use Rattle.lines.specs.Forms.{Begins, ValueEnd, run_end, value_from, value_place, form_in, form_at}
use Rattle.lines.specs.declared.Break.TheVariants.{Unrecognized, Extension, BadHeader}
use Rattle.std.specs.Prelude.{Result, Ok, Err}
use Rattle.text.specs.declared.Place.{Place}
use Rattle.lines.specs.declared.Break.{Break}
use Rattle.lines.specs.declared.Form.{Form}
use Rattle.lines.specs.declared.Form.TheVariants.{Blank, Comment, Header, Setting}

inside : (l : List ℕ) (e : ℕ) → e ≤ length l → (e ≡ length l → ⊥) → e < length l
inside l e h n = let m : (e ≡ length l → ⊥) = n in omega (arith, m)

-- ---- `[@`

module _ (d : Dialect) (l : List ℕ) (from : ℕ) where
  pub extends_end : d ≡ Iwd → from ≡ length l → Begins d l from false
  extends_end q e = record { is = rw (q, view_end l from e) }

  pub extends_first : d ≡ Iwd → from ≤ length l → (from ≡ length l → ⊥) → Begins d l from (eqb (get_or l from 0) 64)
  extends_first q h n = record { is = rw (q, view_more l from (inside l from h n)) }

  pub extends_never : d ≡ ConnMan → Begins d l from false
  extends_never q = record { is = rw q }

-- ---- a header, whose bracket is at a place

module _ {d : Dialect} {l : List ℕ} (at : ℕ) {x : Bool} (is : Begins d l (at + 1) x) where
  pub header_extension : x ≡ true → Err Extension ≡ form_in d l at (bracket_of d (drop (at + 1) l))
  unfolding bracket_of
  header_extension q = rw (← is.is, q)

  module _ (q : x ≡ false) {e : ℕ} (h : Stop is_header_byte l (at + 1) e) where
    view : bracket_of d (drop (at + 1) l) ≡ header_of (part (at + 1) e l) (drop e l)
    unfolding bracket_of
    view = rw (← is.is, q) (ap₂ header_of (stop_front h) (stop_after h))

    bad : {t u : Bool} → empty (part (at + 1) e l) ≡ t → closed (drop e l) ≡ u → (not t && u) ≡ false → Err BadHeader ≡ form_in d l at (bracket_of d (drop (at + 1) l))
    bad a b k = let z : broken BadHeader ≡ bracket_of d (drop (at + 1) l) = sym (view ∙ rw (a, b, k)) in ap (form_in d l at) z

    pub header_open : e ≡ length l → Err BadHeader ≡ form_in d l at (bracket_of d (drop (at + 1) l))
    header_open k = bad refl (ap closed (view_end l e k)) (and-false (not (empty (part (at + 1) e l))))

    pub header_empty : e ≡ at + 1 → Err BadHeader ≡ form_in d l at (bracket_of d (drop (at + 1) l))
    header_empty k = bad (ap (λ (n : ℕ). empty (part (at + 1) n l)) k ∙ ap empty (part_none l (at + 1))) refl refl

    module _ (more : e ≡ length l → ⊥) where
      closing : {t : Bool} → eqb (get_or l e 0) 93 ≡ t → {u : Bool} → all is_blank (drop (e + 1) l) ≡ u → closed (drop e l) ≡ (t && u)
      closing a b = rw (view_more l e (inside l e h.within more), a, b)

      pub header_other : (get_or l e 0 ≡ 93 → ⊥) → Err BadHeader ≡ form_in d l at (bracket_of d (drop (at + 1) l))
      header_other k = bad refl (closing (ne_eqb _ _ k) refl) (and-false (not (empty (part (at + 1) e l))))

      module _ (k : get_or l e 0 ≡ 93) {r : ℕ} (g : Stop is_blank l (e + 1) r) where
        pub header_rest : (r ≡ length l → ⊥) → Err BadHeader ≡ form_in d l at (bracket_of d (drop (at + 1) l))
        header_rest n = bad refl (closing (eq-eqb _ _ k) (stop_some g n)) (and-false (not (empty (part (at + 1) e l))))

        pub header_good : (e ≡ at + 1 → ⊥) → r ≡ length l → Ok (Header (record { start = at + 1; end = e })) ≡ form_in d l at (bracket_of d (drop (at + 1) l))
        header_good n j =
            let m : (e ≡ at + 1 → ⊥) = n in
            let s : empty (part (at + 1) e l) ≡ false = part_some l (at + 1) e (omega (arith, stop_low h, m)) h.within in
            let z : header (part (at + 1) e l) ≡ bracket_of d (drop (at + 1) l) = sym (view ∙ rw (s, closing (eq-eqb _ _ k) (stop_all g j))) in
            ap (λ (i : ℕ). Ok (Header (record { start = at + 1; end = i }))) h.is ∙ ap (form_in d l at) z

-- ---- a setting

pub ends_iwd : (d : Dialect) (l : List ℕ) (from : ℕ) → from ≤ length l → d ≡ Iwd → ValueEnd d l from (length l)
ends_iwd d l from h q = rw q (record { low = h; within = le_refl (length l); is = take_all (length l - from) (drop from l) (simp length-drop (le_refl _)) })

pub ends_connman : (d : Dialect) {l : List ℕ} {from e : ℕ} → Trim l from e → d ≡ ConnMan → ValueEnd d l from e
ends_connman d t q = rw q (record { low = t.low; within = t.within; is = t.is })

ends_at : {d : Dialect} {l : List ℕ} {v e : ℕ} → ValueEnd d l v e → record { start = v; end = e } ≡ value_place d l v
ends_at {d} {l} {v} {e} t =
    let long : length (part v e l) ≡ e - v = part_long l v e t.low t.within in
    ap (λ (i : ℕ). record { start = v; end = i }) (let z : e ≡ v + length (ended d (drop v l)) = omega (arith, long, t.low, ap length t.is) in z)

module _ (d : Dialect) {l : List ℕ} {at k e : ℕ} (h : Stop (is_key_byte d) l at k) (g : Stop is_blank l k e) where
  sight : setting_of d (drop at l) ≡ equal_of d (part at k l) (drop e l)
  unfolding setting_of
  sight = ap₂ (equal_of d) (stop_front h) (ap (after is_blank) (stop_after h) ∙ stop_after g)

  pub setting_end : e ≡ length l → Err Unrecognized ≡ form_in d l at (setting_of d (drop at l))
  setting_end q = ap (form_in d l at) (sym (sight ∙ ap (equal_of d (part at k l)) (view_end l e q)))

  module _ (more : e ≡ length l → ⊥) where
    setting_is : {a b : Bool} → empty (part at k l) ≡ a → eqb (get_or l e 0) 61 ≡ b → cond (not a && b) (setting (part at k l) (ended d (after is_blank (drop (e + 1) l)))) (broken Unrecognized) ≡ setting_of d (drop at l)
    setting_is p r = sym (sight ∙ ap (equal_of d (part at k l)) (view_more l e (inside l e g.within more)) ∙ rw (p, r))

    pub setting_empty : k ≡ at → Err Unrecognized ≡ form_in d l at (setting_of d (drop at l))
    setting_empty q = ap (form_in d l at) (setting_is (ap (λ (n : ℕ). empty (part at n l)) q ∙ ap empty (part_none l at)) refl)

    module _ (some : k ≡ at → ⊥) where
      keyed : empty (part at k l) ≡ false
      keyed = let m : (k ≡ at → ⊥) = some in part_some l at k (omega (arith, stop_low h, m)) h.within

      pub setting_open : (get_or l e 0 ≡ 61 → ⊥) → Err Unrecognized ≡ form_in d l at (setting_of d (drop at l))
      setting_open q = ap (form_in d l at) (setting_is keyed (ne_eqb _ _ q))

      value_from_lem : {v : ℕ} → Stop is_blank l (e + 1) v → v ≡ value_from l k
      value_from_lem s = s.is ∙ ap (λ (i : ℕ). run_end is_blank l (i + 1)) g.is

      pub setting_good : get_or l e 0 ≡ 61 → {v f : ℕ} → Stop is_blank l (e + 1) v → ValueEnd d l v f → Ok (Setting (record { start = at; end = k }) (record { start = v; end = f })) ≡ form_in d l at (setting_of d (drop at l))
      setting_good q s t =
          ap (λ (p : Place). Ok (Setting (record { start = at; end = k }) p)) (ends_at t)
          ∙ ap (λ (i : ℕ). Ok (Setting (record { start = at; end = k }) (value_place d l i))) (value_from_lem s)
          ∙ ap (λ (i : ℕ). Ok (Setting (record { start = at; end = i }) (value_place d l (value_from l i)))) h.is
          ∙ ap (form_in d l at) (setting_is keyed (eq-eqb _ _ q))

-- ---- a line

module _ (d : Dialect) {l : List ℕ} {at : ℕ} (h : Stop is_blank l 0 at) where
  first : at ≡ lead is_blank l
  first = h.is ∙ zero-add (lead is_blank l)

  body : line_of d l ≡ body_of d (drop at l)
  unfolding line_of
  body = ap (body_of d) (stop_after h)

  -- the form of what the line is, and where its text starts
  formed : {x : Line} → line_of d l ≡ x → form_in d l at x ≡ form_at d l
  unfolding form_at
  formed e = ap₂ (form_in d l) first (sym e)

  pub line_blank : at ≡ length l → Ok Blank ≡ form_at d l
  line_blank e = formed (body ∙ ap (body_of d) (view_end l at e))

  module _ (more : at ≡ length l → ⊥) where
    line_first : {a b : Bool} → eqb (get_or l at 0) 35 ≡ a → eqb (get_or l at 0) 91 ≡ b → line_of d l ≡ cond a comment (cond b (bracket_of d (drop (at + 1) l)) (setting_of d (drop at l)))
    line_first p q =
        let v : drop at l ≡ get_or l at 0 ∷ drop (at + 1) l = view_more l at (inside l at h.within more) in
        body ∙ ap (body_of d) v ∙ rw (p, q, v)

    pub line_comment : get_or l at 0 ≡ 35 → Ok Comment ≡ form_at d l
    line_comment e = formed (line_first (eq-eqb _ _ e) refl)

    module _ (n : get_or l at 0 ≡ 35 → ⊥) {r : Result Form Break} where
      pub line_bracket : get_or l at 0 ≡ 91 → r ≡ form_in d l at (bracket_of d (drop (at + 1) l)) → r ≡ form_at d l
      line_bracket e f = f ∙ formed (line_first (ne_eqb _ _ n) (eq-eqb _ _ e))

      pub line_setting : (get_or l at 0 ≡ 91 → ⊥) → r ≡ form_in d l at (setting_of d (drop at l)) → r ≡ form_at d l
      line_setting e f = f ∙ formed (line_first (ne_eqb _ _ n) (ne_eqb _ _ e))
