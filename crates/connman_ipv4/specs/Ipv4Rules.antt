-- ConnMan's IPv4, said of the bytes: `Ipv4RuleLaws` shows that `ipv4` keeps to it.
use Rattle.std.specs.Prelude.{ℕ, List, ◌⊎◌}
use Rattle.text.specs.Words.{word}
use Rattle.addresses.specs.AddressRules.{AddressIs, MaskIs, LengthIs}
use Rattle.addressing.specs.Addressing.{Addressing}
use Rattle.addressing.specs.SettingRules.{AddressingIs}

-- "mask or length (1 to 32, no leading zero)"
abbrev pub MaskOrLength : List ℕ → ℕ → Type 0
MaskOrLength m n = MaskIs m n ⊎ LengthIs 32 m n

-- "ConnMan IPv4 is `off`, `dhcp`, or address `/` mask or length .., and optionally `/` gateway."
abbrev pub Ipv4Is : List ℕ → Addressing → Type 0
Ipv4Is v i = AddressingIs (word "dhcp") AddressIs MaskOrLength v i
