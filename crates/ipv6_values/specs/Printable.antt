-- ConnMan's IPv6 and iwd's Address are printable, since IPv6 addresses and lengths are.
use Rattle.std.specs.Prelude.{ℕ, refl, List}
use Rattle.text.specs.Words.{word}
use Rattle.text.specs.Printable.{Printable, pieces_printable}
use Rattle.addresses.specs.AddressRules.{LengthIs}
use Rattle.addresses.specs.Printable.{length_printable}
use Rattle.addressing.specs.Addressing.{Addressing}
use Rattle.addressing.specs.Printable.{addressing_printable}
use Rattle.ipv6.specs.Ipv6Rules.{Ipv6Is}
use Rattle.ipv6.specs.Printable.{ipv6_printable}
use Rattle.ipv6_values.specs.Ipv6Values.{WithLength}
use Rattle.ipv6_values.specs.Ipv6ValueRules.{ConnmanIpv6Is, WithLengthIs, without_length, with_length_lem}

pub connman_ipv6_printable : {v : List ℕ} {i : Addressing} → ConnmanIpv6Is v i → Printable v
connman_ipv6_printable h =
    addressing_printable (word "auto") Ipv6Is (LengthIs 128) refl (λ a x. ipv6_printable) (λ m n. length_printable) h

pub with_length_printable : {v : List ℕ} {w : WithLength} → WithLengthIs v w → Printable v
with_length_printable (without_length p h) = pieces_printable 47 refl p (ipv6_printable h, tt)
with_length_printable (with_length_lem p h k) = pieces_printable 47 refl p (ipv6_printable h, (length_printable k, tt))
