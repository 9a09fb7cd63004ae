-- ConnMan's IPv6 and iwd's Address with its length, said of the bytes: `Ipv6ValueRuleLaws` shows that `connman_ipv6` and `with_length` keep to it.
use Rattle.std.specs.Prelude.{ℕ, List, [], ◌∷◌}
use Rattle.text.specs.Pieces.{Pieces}
use Rattle.text.specs.Words.{word}
use Rattle.addresses.specs.AddressRules.{LengthIs}
use Rattle.addressing.specs.Addressing.{Addressing}
use Rattle.addressing.specs.SettingRules.{AddressingIs}
use Rattle.ipv6.specs.Ipv6Rules.{Ipv6Is}
use Rattle.ipv6_values.specs.Ipv6Values.{WithLength}

-- "ConnMan's IPv6 gains address/length with an optional gateway", beside `off` and `auto`
abbrev pub ConnmanIpv6Is : List ℕ → Addressing → Type 0
ConnmanIpv6Is v i = AddressingIs (word "auto") Ipv6Is (LengthIs 128) v i

-- "Address (length 128 if left off)"
pub data WithLengthIs (v : List ℕ) : WithLength → Type 0 where
  without_length : {a x : List ℕ} → Pieces 47 v (a ∷ []) → Ipv6Is a x → WithLengthIs v (record { address = x; length = 128 })
  with_length_lem : {a m x : List ℕ} {n : ℕ}
      → Pieces 47 v (a ∷ m ∷ []) → Ipv6Is a x → LengthIs 128 m n → WithLengthIs v (record { address = x; length = n })
