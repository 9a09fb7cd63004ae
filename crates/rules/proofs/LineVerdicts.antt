-- The fault of a line is the first row of document 01's table that applies to it; a line without a fault is allowed.
use Rattle.std.specs.Prelude.{ℕ, ◌≡◌, Bool, true, false, cond, List, [], ◌∷◌, Option, None, Some}
use Rattle.std.proofs.Common.{arith, sym, ◌∙◌, subst, true≢false, inl, inr}
use Rattle.std.proofs.Math.Path.{refl}
use Rattle.std.proofs.lemmas.Option.{none-some}
use Rattle.text.specs.Relations.{Each, Any}
use Rattle.text.specs.Occurrences.{First}
use Rattle.text.specs.OccurrenceLaws.{none_first}
use Rattle.text.specs.Decides.{Decides, holds, fails, decides_and}
use Rattle.text.specs.declared.Dialect.{Dialect}
use Rattle.utf8.specs.Utf8.{value_text}
use Rattle.kinds.specs.Typed.{Typed, broken_text, by_kind, typed, string_broken, kind_judged, judged}
use Rattle.kinds.specs.ValueRules.{ValueIs, WholeText}
use Rattle.kinds.proofs.ValueRuleLaws.{typed_value, value_typed, judged_whole, whole_text, whole_unbroken}
use Rattle.kinds.specs.declared.Kind.{Kind}
use Rattle.lines.specs.Lines.{Line, blank, comment, header, setting, broken}
use Rattle.lines.specs.declared.Break.{Break}
use Rattle.lines.specs.declared.Break.TheVariants as B
use Rattle.rules.specs.Tables.{group_of, kind_of}
use Rattle.rules.specs.Sections.{Section}
use Rattle.rules.specs.Faults.{break_of, header_fault, value_fault, key_fault, setting_fault, fault}
use Rattle.rules.specs.GroupKeys.{GroupIs}
use Rattle.rules.specs.LineOrder.{NamesGroup, GivesKey, Here, KeyHere, EightServices, AllowedSetting, Allowed, RowApplies, line_rows, FirstRow}
use Rattle.rules.proofs.TableLaws.{key_kind_lem, kind_key, group_named, named_group, serves_tells}
use Rattle.rules.proofs.HereLaws.{here_headed, since_without, kind_unique, key_known}
use Rattle.rules.proofs.SectionLaws.{pairs_tell, given_tells, SectionsRead, named_tells, eight_tells}
use Rattle.rules.specs.declared.Group.{Group}
use Rattle.rules.specs.declared.Group.TheVariants.{Service}
use Rattle.rules.specs.declared.Refusal.{Refusal}
use Rattle.rules.specs.declared.Refusal.TheVariants as R

abbrev pub LineVerdict : Dialect → List Line → Line → Option Refusal → Type 0
LineVerdict d before l None = Allowed d before l
LineVerdict d before l (Some r) = FirstRow d before l r

-- a row of another kind of line
abbrev never : ¬ ⊥
never z = z

-- ---- a line that is none of the four

break_first : (d : Dialect) (before : List Line) (b : Break) → FirstRow d before (broken b) (break_of b)
break_first d before B.Unrecognized = inl (refl, refl)
break_first d before B.Extension = inl (refl, refl)
break_first d before B.BadHeader = inr ((λ e. let z : ◌≡◌ {A = ℕ} 0 1 = cc in omega arith), inl (refl, refl))

-- ---- a header

header_verdict : (d : Dialect) (gs : List Section) (before : List Line) → SectionsRead d gs before →
    (n : List ℕ) (o : Option Group) → group_of d n ≡ o → LineVerdict d before (header n) (header_fault n o gs)
header_verdict d gs before s n None q =
    inr (never, inr (never, inl ((λ g h. none-some g (sym q ∙ group_named d n g h)), refl)))
header_verdict d gs before s n (Some g) q =
    go (named_tells d gs before s n) (decides_and (serves_tells d n g q) (eight_tells d gs before s))
  where
    known : ¬ ((h : Group) → ¬ GroupIs d n h)
    known z = z g (named_group d n g q)

    go : {a b : Bool} → Decides (Any (NamesGroup n) before) a →
        Decides (GroupIs d n Service × EightServices d before) b →
        LineVerdict d before (header n) (cond a (Some R.RepeatedGroup) (cond b (Some R.ManyServices) None))
    go (holds h) t = inr (never, inr (never, inr (known, inl (h, refl))))
    go (fails h) (holds k) = inr (never, inr (never, inr (known, inr (h, inl (k, refl)))))
    go (fails h) (fails k) = record { group = g; listed = named_group d n g q; once = h; few = k }

-- ---- a setting

module _ (d : Dialect) (g : Section) (gs : List Section) (before : List Line) (s : SectionsRead d (g ∷ gs) before) (k v : List ℕ) where
  abbrev here : Here d before
  here = record {
    earlier = s.0;
    name = g.name;
    since = s.1;
    is = s.2.is;
    latest = s.2.latest;
    group = g.group;
    named = named_group d g.name g.group s.2.grouped;
  }

  module _ (kind : Kind) (q : kind_of g.group k ≡ Some kind) where
    abbrev place : KeyHere d before k
    place = record { here = here; kind = kind; listed = kind_key g.group k kind q }

    -- the rows behind 3, 8 and 9, none of which applies
    behind : (r : Refusal) →
        First (RowApplies d before (setting k v)) (R.RepeatedKey ∷ R.ValueText ∷ R.ValueKind ∷ []) r →
        FirstRow d before (setting k v) r
    behind r h = inr (never, inr (here_headed here, inr (key_known place, h)))

    module _ (n : ¬ Any (GivesKey k) s.1) where
      new : ¬ ((y : Here d before) × Any (GivesKey k) y.since)
      new z = since_without k here z.0 n z.1

      whole : WholeText kind v → ¬ ((x : KeyHere d before k) × (¬ WholeText x.kind v))
      whole w z = z.1 (subst (λ (a : Kind). WholeText a v) (kind_unique place z.0) w)

      value_verdict : (a : Bool) → value_text v ≡ a → (b : Bool) → string_broken kind v ≡ b →
          (o : Option Typed) → typed d kind v ≡ o →
          LineVerdict d before (setting k v) (value_fault (cond a (cond b broken_text (by_kind o)) broken_text))
      value_verdict false p b t o e =
          behind R.ValueText (inr (new, inl ((place, λ w. true≢false (sym (whole_text kind v w) ∙ p)), refl)))
      value_verdict true p true t o e =
          behind R.ValueText (inr (new, inl ((place, λ w. true≢false (sym t ∙ whole_unbroken kind v w)), refl)))
      value_verdict true p false t None e =
          behind R.ValueKind
          (inr (new, inr (whole (judged_whole kind v p t), inl ((place, unread), refl))))
        where
          unread : (y : Typed) → ¬ ValueIs d kind v y
          unread y w = none-some y (sym e ∙ value_typed d kind v w)
      value_verdict true p false t (Some y) e =
          record { place = place; once = n; text = judged_whole kind v p t; typed = y; good = typed_value d kind v e }

    listed_verdict : {b : Bool} → Decides (Any (GivesKey k) s.1) b →
        LineVerdict d before (setting k v) (cond b (Some R.RepeatedKey) (value_fault (judged d kind v)))
    unfolding judged kind_judged
    listed_verdict (holds h) = behind R.RepeatedKey (inl ((here, h), refl))
    listed_verdict (fails n) = value_verdict n (value_text v) refl (string_broken kind v) refl (typed d kind v) refl

  key_verdict : (o : Option Kind) → kind_of g.group k ≡ o →
      LineVerdict d before (setting k v) (key_fault d k v o g.entries)
  key_verdict None q =
      inr (never, inr (here_headed here, inl ((here, λ x h. none-some x (sym q ∙ key_kind_lem g.group k x h)), refl)))
  key_verdict (Some kind) q =
      listed_verdict kind q (pairs_tell (λ j u. k ≡ j) g.entries s.1 s.2.entries (given_tells k g.entries))

setting_verdict : (d : Dialect) (gs : List Section) (before : List Line) → SectionsRead d gs before →
    (k v : List ℕ) → LineVerdict d before (setting k v) (setting_fault d k v gs)
setting_verdict d [] before s k v = inr (never, inl (s.0, refl))
setting_verdict d (g ∷ gs) before s k v = key_verdict d g gs before s k v (kind_of g.group k) refl

-- ---- a line

pub line_verdict : (d : Dialect) (gs : List Section) (before : List Line) → SectionsRead d gs before →
    (l : Line) → LineVerdict d before l (fault d gs l)
unfolding fault
line_verdict d gs before s blank = tt
line_verdict d gs before s comment = tt
line_verdict d gs before s (broken b) = break_first d before b
line_verdict d gs before s (header n) = header_verdict d gs before s n (group_of d n) refl
line_verdict d gs before s (setting k v) = setting_verdict d gs before s k v

-- ---- no row applies to a line that is allowed

abbrev NoRow : Dialect → List Line → Line → Type 0
NoRow d before l = Each (λ r. ¬ RowApplies d before l r) (line_rows l)

setting_no_row : (d : Dialect) (before : List Line) (k v : List ℕ) → AllowedSetting d before k v →
    NoRow d before (setting k v)
setting_no_row d before k v a =
    (never, (here_headed a.place.here, (key_known a.place, (once, (text, (value, tt))))))
  where
    once : ¬ ((y : Here d before) × Any (GivesKey k) y.since)
    once z = since_without k a.place.here z.0 a.once z.1

    text : ¬ ((x : KeyHere d before k) × (¬ WholeText x.kind v))
    text z = z.1 (subst (λ (b : Kind). WholeText b v) (kind_unique a.place z.0) a.text)

    value : ¬ ((x : KeyHere d before k) × ((t : Typed) → ¬ ValueIs d x.kind v t))
    value z = z.1 a.typed (subst (λ (b : Kind). ValueIs d b v a.typed) (kind_unique a.place z.0) a.good)

no_row : (d : Dialect) (before : List Line) (l : Line) → Allowed d before l → NoRow d before l
no_row d before blank a = (never, (never, (never, (never, (never, (never, tt))))))
no_row d before comment a = (never, (never, (never, (never, (never, (never, tt))))))
no_row d before (header n) a = (never, (never, ((λ z. z a.group a.listed), (a.once, (a.few, tt)))))
no_row d before (setting k v) a = setting_no_row d before k v a
no_row d before (broken b) a = absurd a

pub allowed_faultless : (d : Dialect) (before : List Line) (l : Line) (r : Refusal) → Allowed d before l →
    FirstRow d before l r → ⊥
allowed_faultless d before l r a f = none_first (RowApplies d before l) (line_rows l) r (no_row d before l a) f
