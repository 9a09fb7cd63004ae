-- The kind judged before the text answers as the text before the kind: a good value that is no free text has good text.
use Prim.Native.Nat.{ℕ}
use mathlib.Core.Path.{◌≡◌, refl, ap, sym, ◌∙◌, subst}
use mathlib.Core.Bool.{Bool, true, false, cond}
use mathlib.Core.List.{List, [], ◌∷◌}
use Rattle.text.specs.declared.Dialect.{Dialect}
use Rattle.text.specs.declared.Place.{Place}
use Rattle.utf8.specs.Utf8.{value_text}
use Rattle.kinds.specs.Typed.{Judged, good, broken_text, broken_kind, kind_judged, judged}
use Rattle.kinds.specs.Answers.{judgement_at}
use Rattle.kinds.specs.Judging.{is_free_text, broken_by}
use Rattle.kinds.proofs.Printable.{good_text}
use Rattle.kinds.specs.declared.Kind.{Kind}
use Rattle.kinds.specs.declared.Kind.TheVariants as K
use Rattle.std.specs.Prelude.{Result, Ok, Err, is_ok}
use Rattle.std.proofs.Common.{true≢false}
use Rattle.kinds.specs.declared.Value.{Value}
use Rattle.kinds.specs.declared.Broken.{Broken}
use Rattle.kinds.specs.declared.Broken.TheVariants as B

-- ---- the kinds other than free text

pub printable_kind : (k : Kind) → (k ≡ K.Entries → ⊥) → (k ≡ K.Passphrase → ⊥) → ((low high : ℕ) → k ≡ K.Text low high → ⊥) →
    false ≡ is_free_text k
printable_kind K.Flag e p t = refl
printable_kind (K.Named w) e p t = refl
printable_kind K.Address e p t = refl
printable_kind K.Netmask e p t = refl
printable_kind K.Ipv4 e p t = refl
printable_kind K.Ipv6 e p t = refl
printable_kind K.Ipv6Address e p t = refl
printable_kind K.Ipv6WithLength e p t = refl
printable_kind (K.Addresses sep) e p t = refl
printable_kind K.Entries e p t = absurd (e refl)
printable_kind K.Mac e p t = refl
printable_kind K.PreSharedKey e p t = refl
printable_kind K.Ssid e p t = refl
printable_kind K.Passphrase e p t = absurd (p refl)
printable_kind (K.Text low high) e p t = absurd (t low high refl)

abbrev is_text_error : Result Value Broken → Bool
is_text_error (Ok x) = false
is_text_error (Err B.Text) = true
is_text_error (Err B.Kind) = false

-- ---- the judgement j by the kind

module _ (d : Dialect) (k : Kind) (v : List ℕ) (p : Place)
    {j : Result Value Broken} (e : j ≡ judgement_at p (kind_judged d k v)) where
  pub broken_judged : j ≡ Err B.Kind → {r : Broken} → r ≡ broken_by (value_text v) →
      Err r ≡ judgement_at p (judged d k v)
  unfolding judged
  broken_judged q h = ap Err h ∙ go (value_text v)
    where
      go : (t : Bool) → Err (broken_by t) ≡ judgement_at p (cond t (kind_judged d k v) broken_text)
      go true = sym q ∙ e
      go false = refl

  pub text_judged : value_text v ≡ true → {r : Result Value Broken} → j ≡ r → r ≡ judgement_at p (judged d k v)
  unfolding judged
  text_judged t q = sym q ∙ rw t e

  kind_judged_lem : is_free_text k ≡ false → (j ≡ Err B.Kind → ⊥) → j ≡ judgement_at p (judged d k v)
  unfolding judged
  kind_judged_lem n u = go (kind_judged d k v) refl
    where
      broken : (t : Bool) → judgement_at p (cond t broken_text broken_text) ≡ judgement_at p broken_text
      broken true = refl
      broken false = refl

      go : (q : Judged) → kind_judged d k v ≡ q → j ≡ judgement_at p (cond (value_text v) (kind_judged d k v) broken_text)
      go (good t) q = rw (good_text d k v n q) e
      go broken_text q = e ∙ rw q (sym (broken (value_text v)))
      go broken_kind q = absurd (u (e ∙ ap (judgement_at p) q))

  -- a good value, and one whose text is broken
  pub good_judged : is_free_text k ≡ false → {x : Value} → j ≡ Ok x → Ok x ≡ judgement_at p (judged d k v)
  good_judged n q = sym q ∙ kind_judged_lem n (λ u. true≢false (ap is_ok (sym q ∙ u)))

  pub broken_text_judged : is_free_text k ≡ false → j ≡ Err B.Text → Err B.Text ≡ judgement_at p (judged d k v)
  broken_text_judged n q = sym q ∙ kind_judged_lem n (λ u. true≢false (ap is_text_error (sym q ∙ u)))
