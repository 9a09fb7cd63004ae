-- The judgement of each kind, from what its reader answers.
use mathlib.Core.Path.{◌≡◌, refl, ap, ◌∙◌}
use mathlib.Core.Bool.{Bool, true, false, cond, not}
use mathlib.Core.List.{List, [], ◌∷◌}
use Rattle.std.specs.Prelude.{Option, None, Some, Result, ok_or, option_map, is_some}
use Prim.Native.Nat.{ℕ}
use native.Mathlib.Omega.{arith}
use lib.Dec.{eqb, eqb-suc-zero}
use lib.ListN.{length}
use Rattle.text.specs.Bytes.{between}
use Rattle.text.specs.Options.{mapped, sized, or_empty, each}
use Rattle.text.specs.Laws.{between_low}
use Rattle.text.specs.OptionLaws.{sized_some}
use Rattle.text.specs.declared.Dialect.{Dialect}
use Rattle.text.specs.declared.Place.{Place}
use Rattle.escapes.specs.Escapes.{unescape}
use Rattle.kinds.specs.Kinds as K
use Rattle.kinds.specs.Typed.{Typed, escapes_broken, kind_judged, by_kind, bytes}
use Rattle.kinds.specs.Typed as T
use Rattle.kinds.specs.Answers.{value_at, judgement_at}
use Rattle.kinds.specs.Judging.{kept_at, string_judgement}
use Rattle.kinds.specs.declared.Kind.{Kind}
use Rattle.kinds.specs.declared.Value.{Value}
use Rattle.kinds.specs.declared.Value.TheVariants as W
use Rattle.kinds.specs.declared.Broken.{Broken}
use Rattle.kinds.specs.declared.Broken.TheVariants as B

-- a list of at least one has a count
pub counted : (high : ℕ) (o : Option (List (List ℕ))) {n : ℕ} → n ≡ length (or_empty (sized 1 high o)) → not (eqb n 0) ≡ is_some (sized 1 high o)
counted high o e = go (sized 1 high o) refl e
  where
    go : (q : Option (List (List ℕ))) → sized 1 high o ≡ q → {n : ℕ} → n ≡ length (or_empty q) → not (eqb n 0) ≡ is_some q
    go None r e = rw e
    go (Some []) r e = absurd (omega (arith, between_low {x = 0} 1 high (sized_some 1 high o r).0))
    go (Some (a ∷ l)) r e = rw (e, eqb-suc-zero (length l))

-- whether something was read says whether it is read as something else
pub mapped_some : {A B : Type 0} (f : A → B) (o : Option A) → is_some (mapped f o) ≡ is_some o
mapped_some f None = refl
mapped_some f (Some a) = refl

-- ---- the judgements

-- a value that is kept as it is read, and one that is kept by its place
given_is : {A : Type 0} (p : Place) (f : A → Typed) (g : A → Value) → ((a : A) → value_at p (f a) ≡ g a) → (o : Option A) →
    ok_or (option_map g o) B.Kind ≡ judgement_at p (by_kind (mapped f o))
given_is p f g t None = refl
given_is p f g t (Some a) = rw (t a)

kept_is : {A : Type 0} (p : Place) (f : A → Typed) → ((a : A) → value_at p (f a) ≡ W.Text p) → (o : Option A) {good : Bool} →
    good ≡ is_some o → kept_at p good ≡ judgement_at p (by_kind (mapped f o))
kept_is p f t None e = rw e
kept_is p f t (Some a) e = rw (e, t a)

-- a string by its length
string_is : (low high : ℕ) (v : List ℕ) (p : Place) → string_judgement p low high (mapped length (unescape v)) ≡ judgement_at p (cond (escapes_broken v) T.broken_text (by_kind (mapped bytes (K.string low high v))))
unfolding K.string
string_is low high v p = go (unescape v)
  where
    go : (o : Option (List ℕ)) → string_judgement p low high (mapped length o) ≡ judgement_at p (cond (not (is_some o)) T.broken_text (by_kind (mapped bytes (sized low high o))))
    go None = refl
    go (Some t) = last (between low high (length t))
      where
        last : (b : Bool) → kept_at p b ≡ judgement_at p (by_kind (mapped bytes (cond b (Some t) None)))
        last true = refl
        last false = refl

-- ---- the judgement of a kind k that is k', whose values rd reads and f types

module _ {A : Type 0} (d : Dialect) (v : List ℕ) (p : Place) {k k' : Kind} (q : k ≡ k') {r : Result Value Broken}
    (f : A → Typed) (rd : Option A) (u : kind_judged d k' v ≡ by_kind (mapped f rd)) where
  pub given_kind : (g : A → Value) → ((a : A) → value_at p (f a) ≡ g a) → {o : Option A} → o ≡ rd →
      r ≡ ok_or (option_map g o) B.Kind → r ≡ judgement_at p (kind_judged d k v)
  given_kind g t e h = rw (q, u) (h ∙ ap (λ o. ok_or (option_map g o) B.Kind) e ∙ given_is p f g t rd)

  pub kept_kind : ((a : A) → value_at p (f a) ≡ W.Text p) → {good : Bool} → good ≡ is_some rd → r ≡ kept_at p good →
      r ≡ judgement_at p (kind_judged d k v)
  kept_kind t e h = rw (q, u) (h ∙ kept_is p f t rd e)

pub string_kind : (d : Dialect) (v : List ℕ) (p : Place) {k k' : Kind} (q : k ≡ k') {r : Result Value Broken} (low high : ℕ) →
    kind_judged d k' v ≡ cond (escapes_broken v) T.broken_text (by_kind (mapped bytes (K.string low high v))) → {o : Option ℕ} →
    o ≡ mapped length (unescape v) → r ≡ string_judgement p low high o → r ≡ judgement_at p (kind_judged d k v)
string_kind d v p q low high u e h = rw (q, u) (h ∙ ap (string_judgement p low high) e ∙ string_is low high v p)
