-- What `unescape` reads is what the text stands for.
use Rattle.std.specs.Prelude.{ℕ, ◌≡◌, refl, Bool, true, false, cond, List, [], ◌∷◌, eqb, None, Some}
use Rattle.std.proofs.Common.{subst, eqb-true, ne_eqb}
use Rattle.std.proofs.lemmas.Option.{same_Some, none-some}
use Rattle.std.proofs.lemmas.Bool.{eqb-false}
use Rattle.text.specs.Options.{prepend}
use Rattle.text.specs.OptionLaws.{then_some, prepend_some}
use Rattle.escapes.specs.Escapes.{meant, unescape_from, unescape}
use Rattle.escapes.specs.StringRules.{Escape, space, tab, return, newline, backslash, Unescaped, no_more, as_it_stands, escaped}

-- ---- one escape

escape_meant : {c byte : ℕ} → Escape c byte → meant c ≡ Some byte
escape_meant space = refl
escape_meant tab = refl
escape_meant return = refl
escape_meant newline = refl
escape_meant backslash = refl

meant_escape : (c : ℕ) {byte : ℕ} → meant c ≡ Some byte → Escape c byte
meant_escape c {byte} = go (eqb c 115) refl (eqb c 116) refl (eqb c 114) refl (eqb c 110) refl (eqb c 92) refl
  where
    Meant : (s t r n b : Bool) → Type 0
    Meant s t r n b =
        cond s (Some 32) (cond t (Some 9) (cond r (Some 13) (cond n (Some 10) (cond b (Some 92) None)))) ≡ Some byte → Escape c byte

    go : (s : Bool) → eqb c 115 ≡ s → (t : Bool) → eqb c 116 ≡ t → (r : Bool) → eqb c 114 ≡ r → (n : Bool) →
        eqb c 110 ≡ n → (b : Bool) → eqb c 92 ≡ b → Meant s t r n b
    go true p t q r u n w b x h = rw (← same_Some 32 byte h, eqb-true c 115 p) space
    go false p true q r u n w b x h = rw (← same_Some 9 byte h, eqb-true c 116 q) tab
    go false p false q true u n w b x h = rw (← same_Some 13 byte h, eqb-true c 114 u) return
    go false p false q false u true w b x h = rw (← same_Some 10 byte h, eqb-true c 110 w) newline
    go false p false q false u false w true x h = rw (← same_Some 92 byte h, eqb-true c 92 x) backslash
    go false p false q false u false w false x h = absurd (none-some byte h)

-- ---- a text

-- what is read, where a backslash stands before the text or not
abbrev UnescapedFrom : Bool → List ℕ → Type 0
UnescapedFrom false s = (t : List ℕ) → unescape_from false s ≡ Some t → Unescaped s t
UnescapedFrom true s = (t : List ℕ) → unescape_from true s ≡ Some t → Unescaped (92 ∷ s) t

unescaped_first : (c : ℕ) (s : List ℕ) → UnescapedFrom true s → UnescapedFrom false s → UnescapedFrom false (c ∷ s)
unfolding unescape_from
unescaped_first c s x y t e = go (eqb c 92) refl e
  where
    go : (b : Bool) → eqb c 92 ≡ b → cond b (unescape_from true s) (prepend c (unescape_from false s)) ≡ Some t →
        Unescaped (c ∷ s) t
    go true q f = rw (eqb-true c 92 q) (x t f)
    go false q f =
        let k = prepend_some c (unescape_from false s) f in
        subst (Unescaped (c ∷ s)) k.2 (as_it_stands (eqb-false c 92 q) (y k.0 k.1))

unescaped_second : (c : ℕ) (s : List ℕ) → UnescapedFrom false s → UnescapedFrom true (c ∷ s)
unfolding unescape_from
unescaped_second c s y t e =
    let x = then_some (meant c) (λ x. prepend x (unescape_from false s)) e in
    let k = prepend_some x.0 (unescape_from false s) x.2 in
    subst (Unescaped (92 ∷ c ∷ s)) k.2 (escaped (meant_escape c x.1) (y k.0 k.1))

unescaped_from : (b : Bool) (s : List ℕ) → UnescapedFrom b s
unfolding unescape_from
unescaped_from false [] = λ t e. subst (Unescaped []) (same_Some [] t e) no_more
unescaped_from true [] = λ t e. absurd (none-some t e)
unescaped_from false (c ∷ s) = unescaped_first c s (unescaped_from true s) (unescaped_from false s)
unescaped_from true (c ∷ s) = unescaped_second c s (unescaped_from false s)

pub unescape_is : (v : List ℕ) {t : List ℕ} → unescape v ≡ Some t → Unescaped v t
unescape_is v {t} e = unescaped_from false v t e

pub is_unescape : {v t : List ℕ} → Unescaped v t → unescape v ≡ Some t
unfolding unescape_from
is_unescape no_more = refl
is_unescape (as_it_stands {c} d h) = rw (ne_eqb c 92 d, is_unescape h)
is_unescape (escaped d h) = rw (escape_meant d, is_unescape h)
