-- ConnMan's IPv4 is printable, since IPv4 addresses, masks and lengths are.
use Rattle.std.specs.Prelude.{ℕ, refl, List}
use Rattle.std.proofs.Common.{inl, inr}
use Rattle.text.specs.Words.{word}
use Rattle.text.specs.Printable.{Printable}
use Rattle.addresses.specs.AddressRules.{AddressIs}
use Rattle.addresses.specs.Printable.{address_printable, mask_printable, length_printable}
use Rattle.addressing.specs.Addressing.{Addressing}
use Rattle.addressing.specs.Printable.{addressing_printable}
use Rattle.connman_ipv4.specs.Ipv4Rules.{MaskOrLength, Ipv4Is}

size_printable : (m : List ℕ) (n : ℕ) → MaskOrLength m n → Printable m
size_printable m n (inl h) = mask_printable h
size_printable m n (inr h) = length_printable h

pub ipv4_printable : {v : List ℕ} {i : Addressing} → Ipv4Is v i → Printable v
ipv4_printable h =
    addressing_printable (word "dhcp") AddressIs MaskOrLength refl (λ a x. address_printable) size_printable h
