-- The parts of a record by what was read of each setting, absent or not.
use mathlib.Core.Path.{◌≡◌, refl, ap, ap₂, sym, ◌∙◌}
use mathlib.Core.Bool.{Bool, ◌||◌}
use mathlib.Core.List.{List, []}
use Prim.Native.Nat.{ℕ}
use Rattle.std.specs.Prelude.{Option, None, Some, unwrap_or}
use Rattle.std.proofs.lemmas.Option.{none-some, same_Some}
use Rattle.names.specs.Names.{Network, network_laid}
use Rattle.names.specs.declared.IwdName.{IwdName}
use Rattle.text.specs.Options.{mapped, or_else, or_empty}
use Rattle.text.specs.declared.Dialect.TheVariants.{ConnMan}
use Rattle.put.specs.Texts.{bounded}
use Rattle.put.specs.declared.Bounded.{Bounded}
use Rattle.addressing.specs.Addressing.{Addressing, auto, or_auto}
use Rattle.addressing.specs.Numbers.{numbers_laid}
use Rattle.addressing.specs.declared.Numbers.{Numbers}
use Rattle.named_words.specs.declared.Word.TheVariants as W
use Rattle.named_words.specs.declared.WordList.TheVariants as L
use Rattle.ipv6_values.specs.Ipv6Values.{WithLength}
use Rattle.ipv6_values.specs.Layout.{with_length_laid}
use Rattle.ipv6_values.specs.declared.WithLength.{WithLength as Prefixed}
use Rattle.rules.specs.Tables.{keys_of}
use Rattle.rules.specs.Sections.{Entry, entry_of}
use Rattle.rules.specs.declared.Group.TheVariants as G
use Rattle.places.specs.Holds.{RowKeeps}
use Rattle.places.specs.declared.KeyName.TheVariants as N
use Rattle.values.proofs.KeptValues.{row_word}
use Rattle.joins.specs.Joins.{secret_from, name_from, network_name, static_or_auto, foreign}
use Rattle.joins.specs.Answers.{login_answer, login_read, ipv6_read}
use Rattle.joins.specs.Places.{foreign_at}
use Rattle.joins.specs.declared.Login.{Login}

-- ---- the credential

login_chosen : (o q : Option (List ℕ)) → login_read (mapped (bounded 63) o) q ≡ login_answer (secret_from o q)
login_chosen (Some p) q = refl
login_chosen None (Some k) = refl
login_chosen None None = refl

pub login_is : (o q : Option (List ℕ)) {p : Option (Bounded 63)} {k : Option (List ℕ)} {r : Login} → p ≡ mapped (bounded 63) o →
    k ≡ q → r ≡ login_read p k → r ≡ login_answer (secret_from o q)
login_is o q e f g = g ∙ ap₂ login_read e f ∙ login_chosen o q

-- ---- a text, or none

pub text_or_none : (n : ℕ) (o : Option (List ℕ)) → unwrap_or (mapped (bounded n) o) (bounded n []) ≡ bounded n (or_empty o)
text_or_none n None = refl
text_or_none n (Some t) = refl

pub name_or_none : (n : ℕ) (o q : Option (List ℕ)) →
    unwrap_or (or_else (mapped (bounded n) o) (mapped (bounded n) q)) (bounded n []) ≡ bounded n (name_from o q)
name_or_none n (Some s) q = refl
name_or_none n None None = refl
name_or_none n None (Some t) = refl

-- ---- the name of a network

pub named_network : (o : Option Network) {n : IwdName} → Some n ≡ mapped network_laid o → n.name ≡ bounded 32 (network_name o)
named_network None {n} q = absurd (none-some n (sym q))
named_network (Some x) {n} q = ap (λ (n : IwdName). n.name) (same_Some n (network_laid x) q)

pub unnamed_network : (o : Option Network) {r : Bounded 32} → None ≡ mapped network_laid o → r ≡ bounded 32 [] → r ≡ bounded 32 (network_name o)
unnamed_network None q e = e
unnamed_network (Some x) q e = absurd (none-some (network_laid x) q)

-- ---- IPv6

pub ipv6_given : (o : Option WithLength) (q : Option (List ℕ)) {a : Option Prefixed} {g : Option (List ℕ)} {r : Numbers 16} →
    a ≡ mapped with_length_laid o → g ≡ q → r ≡ ipv6_read a g → r ≡ numbers_laid 16 (static_or_auto o q)
ipv6_given o q e f h = h ∙ ap₂ ipv6_read e f ∙ go o
  where
    go : (o : Option WithLength) → ipv6_read (mapped with_length_laid o) q ≡ numbers_laid 16 (static_or_auto o q)
    go None = refl
    go (Some a) = refl

-- ---- an addressing, or auto

pub numbers_or_auto : (n : ℕ) (o : Option Addressing) →
    unwrap_or (mapped (numbers_laid n) o) (numbers_laid n auto) ≡ numbers_laid n (or_auto o)
numbers_or_auto n None = refl
numbers_or_auto n (Some i) = refl

-- ---- Security, by the words that a row keeps

pub row_foreign : {file x : List ℕ} {b : ℕ} {es : List Entry} → RowKeeps ConnMan file x b G.Service es → foreign_at x b ≡ foreign (λ k. entry_of k es)
unfolding keys_of
row_foreign h = ap₂ (λ (a b : Bool). a || b) (row_word N.Security h L.Security refl W.Wep) (row_word N.Security h L.Security refl W.Ieee8021x)
