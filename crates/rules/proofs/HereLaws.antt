-- The group in which a line stands is one group, and the lines since its header are one list.
use Rattle.std.specs.Prelude.{ℕ, ◌≡◌, List, [], ◌∷◌, ◌++◌, Some}
use Rattle.std.proofs.Common.{ap, sym, ◌∙◌, subst, inl, inr}
use Rattle.std.proofs.lemmas.Option.{same_Some}
use Rattle.text.specs.Relations.{Each, Any}
use Rattle.text.specs.RelationLaws.{each_at}
use Rattle.text.specs.OccurrenceLaws.{Compared, alike, later, sooner, compare}
use Rattle.text.specs.declared.Dialect.{Dialect}
use Rattle.kinds.specs.declared.Kind.{Kind}
use Rattle.lines.specs.Lines.{Line, blank, comment, header, setting, broken}
use Rattle.rules.specs.Tables.{group_of, kind_of}
use Rattle.rules.specs.GroupKeys.{KeyIs}
use Rattle.rules.specs.LineOrder.{HeaderThat, IsHeader, GivesKey, Here, KeyHere}
use Rattle.rules.proofs.TableLaws.{group_named, key_kind_lem, kind_key}
use Rattle.rules.specs.declared.Group.{Group}

pub that_header : (P : List ℕ → Type 0) (l : Line) → HeaderThat P l → IsHeader l
that_header P blank h = h
that_header P comment h = h
that_header P (header n) h = tt
that_header P (setting k v) h = h
that_header P (broken b) h = h

pub headless : (P : List ℕ → Type 0) (ls : List Line) → Each (λ l. ¬ IsHeader l) ls → ¬ Any (HeaderThat P) ls
headless P [] h s = s
headless P (l ∷ ls) h (inl s) = h.0 (that_header P l s)
headless P (l ∷ ls) h (inr s) = headless P ls h.1 s

pub no_header : (ls : List Line) → Each (λ l. ¬ IsHeader l) ls →
    (a : List Line) (n : List ℕ) (c : List Line) → ¬ (ls ≡ a ++ header n ∷ c)
no_header ls h a n c e = each_at (λ l. ¬ IsHeader l) a (header n) c (rw e at h) tt

module _ {d : Dialect} {before : List Line} where
  here_alike : (x y : Here d before) → (x.name ≡ y.name) × (x.since ≡ y.since)
  here_alike x y =
      go (compare x.earlier (header x.name) x.since y.earlier (header y.name) y.since (sym x.is ∙ y.is))
    where
      go : Compared x.earlier (header x.name) x.since y.earlier (header y.name) y.since →
          (x.name ≡ y.name) × (x.since ≡ y.since)
      go (alike i j l) = (cc, l)
      go (later t i j) = absurd (no_header y.since y.latest t x.name x.since j)
      go (sooner t i j) = absurd (no_header x.since x.latest t y.name y.since j)

  pub here_since : (x y : Here d before) → x.since ≡ y.since
  here_since x y = (here_alike x y).1

  pub here_group : (x y : Here d before) → x.group ≡ y.group
  here_group x y =
      let p = group_named d x.name x.group x.named in
      let q = group_named d y.name y.group y.named in
      same_Some x.group y.group (sym p ∙ ap (group_of d) (here_alike x y).0 ∙ q)

  pub here_headed : Here d before → ¬ Each (λ l. ¬ IsHeader l) before
  here_headed x h = no_header before h x.earlier x.name x.since x.is

  pub since_without : (key : List ℕ) (x y : Here d before) → ¬ Any (GivesKey key) x.since →
      ¬ Any (GivesKey key) y.since
  since_without key x y n h = n (subst (Any (GivesKey key)) (here_since y x) h)

  module _ {key : List ℕ} where
    kind_in : (x : KeyHere d before key) (y : Here d before) → kind_of y.group key ≡ Some x.kind
    kind_in x y =
        ap (λ (g : Group). kind_of g key) (here_group y x.here)
        ∙ key_kind_lem x.here.group key x.kind x.listed

    pub kind_unique : (x y : KeyHere d before key) → x.kind ≡ y.kind
    kind_unique x y = same_Some x.kind y.kind (sym (kind_in x x.here) ∙ kind_in y x.here)

    pub key_known : KeyHere d before key → ¬ ((y : Here d before) × ((kind : Kind) → ¬ KeyIs y.group key kind))
    key_known x z = z.1 x.kind (kind_key z.0.group key x.kind (kind_in x z.0))
