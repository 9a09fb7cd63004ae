-- ConnMan's IPv4, as document 01 says under "Settings and their kinds": none where the value breaks its kind.
use Rattle.std.specs.Prelude.{ℕ, List, Option}
use Rattle.text.specs.Words.{word}
use Rattle.text.specs.Options.{or_else}
use Rattle.addresses.specs.Addresses.{address, netmask, prefix_length_of}
use Rattle.addressing.specs.Addressing.{Addressing}
use Rattle.addressing.specs.Settings.{addressing}

-- "mask or length (1 to 32, no leading zero)"
abbrev pub mask_or_length : List ℕ → Option ℕ
mask_or_length s = or_else (prefix_length_of 32 s) (netmask s)

-- "ConnMan IPv4 is `off`, `dhcp`, or address `/` mask or length .., and optionally `/` gateway."
unfoldable pub ipv4 : List ℕ → Option Addressing
ipv4 s = addressing (word "dhcp") address mask_or_length s
