-- What `addressing` reads is what the text of ConnMan's IPv4 or IPv6 says, where the readings of an address and of a length keep to theirs.
use Rattle.std.specs.Prelude.{ℕ, ◌≤◌, ◌≡◌, refl, Bool, true, false, cond, List, [], ◌∷◌, length, Option, None, Some}
use Rattle.std.proofs.Common.{arith, ap, ◌∙◌, subst}
use Rattle.std.proofs.lemmas.Option.{same_Some, none-some}
use Rattle.text.specs.Parts.{pieces}
use Rattle.text.specs.Pieces.{Pieces}
use Rattle.text.specs.PieceLaws.{pieces_are, pieces_only}
use Rattle.text.specs.Words.{word, same}
use Rattle.text.specs.Options.{and_then}
use Rattle.text.specs.OptionLaws.{then_some}
use Rattle.text.specs.Laws.{same_eq}
use Rattle.addresses.specs.Addresses.{is_bytes}
use Rattle.addressing.specs.Addressing.{Addressing, auto, off, static, Good}
use Rattle.addressing.specs.Settings.{fixed, addressing}
use Rattle.addressing.specs.SettingRules.{AddressingIs, word_off, word_auto, without_gateway, with_gateway}

-- a text with a `/` is no word without one
other_word : (v w : List ℕ) → length (pieces 47 w) ≡ 1 → 2 ≤ length (pieces 47 v) → same v w ≡ false
other_word v w h k = go (same v w) refl
  where
    go : (b : Bool) → same v w ≡ b → b ≡ false
    go true e = let l = ap (λ (s : List ℕ). length (pieces 47 s)) (same_eq v w e) in absurd (omega arith)
    go false e = refl

module _ (automatic : List ℕ) (read : List ℕ → Option (List ℕ)) (size : List ℕ → Option ℕ)
    (AddressIs : List ℕ → List ℕ → Type 0) (SizeIs : List ℕ → ℕ → Type 0) where
  -- ---- what is read is so

  module _ (read_is : (a x : List ℕ) → read a ≡ Some x → AddressIs a x) (size_is : (m : List ℕ) (n : ℕ) → size m ≡ Some n → SizeIs m n) where
    fixed_is : (v : List ℕ) (ps : List (List ℕ)) → Pieces 47 v ps → {i : Addressing} → fixed read size ps ≡ Some i →
        AddressingIs automatic AddressIs SizeIs v i
    fixed_is v [] p {i} e = absurd (none-some i e)
    fixed_is v (a ∷ []) p {i} e = absurd (none-some i e)
    fixed_is v (a ∷ m ∷ []) p {i} e =
        let x = then_some (read a) (λ x. and_then (size m) (λ n. Some (static x n None))) e in
        let n = then_some (size m) (λ n. Some (static x.0 n None)) x.2 in
        subst (AddressingIs automatic AddressIs SizeIs v) (same_Some (static x.0 n.0 None) i n.2) (without_gateway p (read_is a x.0 x.1) (size_is m n.0 n.1))
    fixed_is v (a ∷ m ∷ g ∷ []) p {i} e =
        let x = then_some (read a) (λ x. and_then (size m) (λ n. and_then (read g) (λ y. Some (static x n (Some y))))) e in
        let n = then_some (size m) (λ n. and_then (read g) (λ y. Some (static x.0 n (Some y)))) x.2 in
        let y = then_some (read g) (λ y. Some (static x.0 n.0 (Some y))) n.2 in
        subst (AddressingIs automatic AddressIs SizeIs v) (same_Some (static x.0 n.0 (Some y.0)) i y.2) (with_gateway p (read_is a x.0 x.1) (size_is m n.0 n.1) (read_is g y.0 y.1))
    fixed_is v (a ∷ m ∷ g ∷ h ∷ t) p {i} e = absurd (none-some i e)

    pub addressing_is : (v : List ℕ) {i : Addressing} → addressing automatic read size v ≡ Some i →
        AddressingIs automatic AddressIs SizeIs v i
    addressing_is v {i} e = go (same v (word "off")) refl (same v automatic) refl e
      where
        go : (b : Bool) → same v (word "off") ≡ b → (c : Bool) → same v automatic ≡ c →
            cond b (Some off) (cond c (Some auto) (fixed read size (pieces 47 v))) ≡ Some i →
            AddressingIs automatic AddressIs SizeIs v i
        go true p c q e = subst (AddressingIs automatic AddressIs SizeIs v) (same_Some off i e) (word_off (same_eq v (word "off") p))
        go false p true q e = subst (AddressingIs automatic AddressIs SizeIs v) (same_Some auto i e) (word_auto (same_eq v automatic q))
        go false p false q e = fixed_is v (pieces 47 v) (pieces_are 47 v) e

  -- ---- and what is so is read

  module _ (is_read : (a x : List ℕ) → AddressIs a x → read a ≡ Some x) (is_size : (m : List ℕ) (n : ℕ) → SizeIs m n → size m ≡ Some n) where
    fixed_addressing : length (pieces 47 automatic) ≡ 1 → (v : List ℕ) (ps : List (List ℕ)) {i : Addressing} → Pieces 47 v ps →
        2 ≤ length ps → fixed read size ps ≡ Some i → addressing automatic read size v ≡ Some i
    fixed_addressing w v ps p l e =
        let q : pieces 47 v ≡ ps = pieces_only 47 p in
        let k : 2 ≤ length (pieces 47 v) = rw q l in
        rw (other_word v (word "off") refl k, other_word v automatic w k, q) e

    pub is_addressing : length (pieces 47 automatic) ≡ 1 → addressing automatic read size automatic ≡ Some auto → (v : List ℕ) {i : Addressing} →
        AddressingIs automatic AddressIs SizeIs v i → addressing automatic read size v ≡ Some i
    is_addressing w t v (word_off e) = ap (addressing automatic read size) e
    is_addressing w t v (word_auto e) = ap (addressing automatic read size) e ∙ t
    is_addressing w t v (without_gateway {a} {m} {x} {n} p h k) =
        fixed_addressing w v (a ∷ m ∷ []) p (omega arith) (rw (is_read a x h, is_size m n k))
    is_addressing o t v (with_gateway {a} {m} {g} {x} {y} {n} p h k w) =
        fixed_addressing o v (a ∷ m ∷ g ∷ []) p (omega arith) (rw (is_read a x h, is_size m n k, is_read g y w))

-- what is read is good, where addresses have so many bytes and lengths are at most so great
module _ (width most : ℕ) (automatic : List ℕ) (AddressIs : List ℕ → List ℕ → Type 0) (SizeIs : List ℕ → ℕ → Type 0) where
  pub setting_good : ((a x : List ℕ) → AddressIs a x → is_bytes width x ≡ true) →
      ((m : List ℕ) (n : ℕ) → SizeIs m n → (1 ≤ n) × (n ≤ most)) → {v : List ℕ} {i : Addressing} →
      AddressingIs automatic AddressIs SizeIs v i → Good width most i
  setting_good b s (word_off e) = tt
  setting_good b s (word_auto e) = tt
  setting_good b s (without_gateway {a} {m} {x} {n} p h k) =
      record { address = b a x h; low = (s m n k).0; high = (s m n k).1; gateway = tt }
  setting_good b s (with_gateway {a} {m} {g} {x} {y} {n} p h k w) =
      record { address = b a x h; low = (s m n k).0; high = (s m n k).1; gateway = b g y w }
