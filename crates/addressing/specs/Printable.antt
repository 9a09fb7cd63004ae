-- ConnMan's IPv4 and IPv6 are printable where the family's addresses and lengths are.
use Rattle.std.specs.Prelude.{ℕ, refl, List}
use Rattle.text.specs.Printable.{Printable, pieces_printable}
use Rattle.addressing.specs.Addressing.{Addressing}
use Rattle.addressing.specs.SettingRules.{AddressingIs, word_off, word_auto, without_gateway, with_gateway}

module _ (automatic : List ℕ) (AddressIs : List ℕ → List ℕ → Type 0) (SizeIs : List ℕ → ℕ → Type 0) where
  pub addressing_printable : Printable automatic → ((a x : List ℕ) → AddressIs a x → Printable a) →
      ((m : List ℕ) (n : ℕ) → SizeIs m n → Printable m) → {v : List ℕ} {i : Addressing} →
      AddressingIs automatic AddressIs SizeIs v i → Printable v
  addressing_printable w f s (word_off e) = rw e
  addressing_printable w f s (word_auto e) = rw e w
  addressing_printable w f s (without_gateway {a} {m} {x} {n} p h k) =
      pieces_printable 47 refl p (f a x h, (s m n k, tt))
  addressing_printable w f s (with_gateway {a} {m} {g} {x} {y} {n} p h k t) =
      pieces_printable 47 refl p (f a x h, (s m n k, (f g y t, tt)))
