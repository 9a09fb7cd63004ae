-- A value that is good for its kind is good text and is read by that kind; of each key of an accepted file its value is so.
use Rattle.std.specs.Prelude.{ℕ, ◌≡◌, refl, Bool, true, false, cond, List, Option, None, Some}
use Rattle.std.proofs.Common.{ap, sym, ◌∙◌, subst}
use Rattle.std.proofs.lemmas.Option.{none-some, same_Some}
use Rattle.text.specs.declared.Dialect.{Dialect}
use Rattle.utf8.specs.Utf8.{value_text}
use Rattle.kinds.specs.Typed.{Typed, good, broken_text, by_kind, typed, string_broken, kind_judged, judged}
use Rattle.kinds.specs.declared.Kind.{Kind}
use Rattle.rules.specs.Tables.{group_of, kind_of}
use Rattle.rules.specs.Sections.{Entry, entry_of, entries_in}
use Rattle.rules.specs.Faults.{value_fault}
use Rattle.rules.specs.Reading.{sections_of, reading}
use Rattle.rules.specs.Asking.{service_at}
use Rattle.rules.proofs.GoodEntries.{Asked, group_asked, service_asked}
use Rattle.rules.specs.declared.Group.{Group}
use Rattle.rules.specs.declared.Group.TheVariants.{Service}
use Rattle.rules.specs.declared.Refusal.TheVariants.{ValueText, ValueKind}
use Rattle.rules.specs.Answering.{accepted_with}

pub record GoodValue (d : Dialect) (k : Kind) (v : List ℕ) : Type 0 where
  pub text : value_text v ≡ true
  pub value : Typed
  pub reads : typed d k v ≡ Some value

pub good_value : (d : Dialect) (k : Kind) (v : List ℕ) → value_fault (judged d k v) ≡ None → GoodValue d k v
unfolding judged kind_judged
good_value d k v = go (value_text v) refl (string_broken k v) (typed d k v) refl
  where
    go : (a : Bool) → value_text v ≡ a → (b : Bool) (o : Option Typed) → typed d k v ≡ o →
        value_fault (cond a (cond b broken_text (by_kind o)) broken_text) ≡ None → GoodValue d k v
    go false p b o q f = absurd (none-some ValueText (sym f))
    go true p true o q f = absurd (none-some ValueText (sym f))
    go true p false None q f = absurd (none-some ValueKind (sym f))
    go true p false (Some t) q f = record { text = p; value = t; reads = q }

-- and the other way
pub value_faultless : (d : Dialect) (k : Kind) (v : List ℕ) {t : Typed} → value_text v ≡ true →
    string_broken k v ≡ false → typed d k v ≡ Some t → value_fault (judged d k v) ≡ None
unfolding judged kind_judged
value_faultless d k v h b e = rw (h, b, e)

asked_value : (d : Dialect) (g : Group) (key : List ℕ) {e : Entry} {k : Kind} → kind_of g key ≡ Some k →
    Asked d g key e → GoodValue d k e.value
asked_value d g key {e} {k} q a =
    let same : a.entry.kind ≡ k = same_Some a.entry.kind k (sym a.entry.listed ∙ ap (kind_of g) a.key ∙ q) in
    subst (λ (x : Kind). GoodValue d x e.value) same (good_value d a.entry.kind e.value a.entry.good)

-- of a key with kind k in the group with a name, and in service w
pub group_value_lem : (d : Dialect) (name file : List ℕ) {n m : ℕ} → reading d name file ≡ accepted_with n m →
    (group key : List ℕ) {g : Group} → group_of d group ≡ Some g → {k : Kind} → kind_of g key ≡ Some k → {e : Entry} →
    entry_of key (entries_in group (sections_of d file)) ≡ Some e → GoodValue d k e.value
group_value_lem d name file a group key {g} q k t = asked_value d g key k (group_asked d name file a group key q t)

pub service_value : (d : Dialect) (name file : List ℕ) {n m : ℕ} → reading d name file ≡ accepted_with n m →
    (w : ℕ) (key : List ℕ) {k : Kind} → kind_of Service key ≡ Some k → {e : Entry} →
    entry_of key (service_at w (sections_of d file)) ≡ Some e → GoodValue d k e.value
service_value d name file a w key k t = asked_value d Service key k (service_asked d name file a w key t)
