-- ConnMan's IPv4 and IPv6, said of the bytes: `SettingRuleLaws` shows that `addressing` keeps to it.
use Rattle.std.specs.Prelude.{ℕ, ◌≡◌, List, [], ◌∷◌, None, Some}
use Rattle.text.specs.Pieces.{Pieces}
use Rattle.text.specs.Words.{word}
use Rattle.addressing.specs.Addressing.{Addressing, auto, off, static}

-- "`off`, `dhcp`, or address `/` mask or length (1 to 32, no leading zero), and optionally `/` gateway"; in IPv6 `auto` for `dhcp`. Which
-- text is which address, and which length, the family says.
pub data AddressingIs (automatic : List ℕ) (AddressIs : List ℕ → List ℕ → Type 0) (SizeIs : List ℕ → ℕ → Type 0)
    (v : List ℕ) : Addressing → Type 0 where
  word_off : v ≡ word "off" → AddressingIs automatic AddressIs SizeIs v off
  word_auto : v ≡ automatic → AddressingIs automatic AddressIs SizeIs v auto
  without_gateway : {a m x : List ℕ} {n : ℕ}
      → Pieces 47 v (a ∷ m ∷ []) → AddressIs a x → SizeIs m n → AddressingIs automatic AddressIs SizeIs v (static x n None)
  with_gateway : {a m g x y : List ℕ} {n : ℕ}
      → Pieces 47 v (a ∷ m ∷ g ∷ []) → AddressIs a x → SizeIs m n → AddressIs g y
      → AddressingIs automatic AddressIs SizeIs v (static x n (Some y))
