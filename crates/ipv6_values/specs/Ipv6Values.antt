-- ConnMan's IPv6, and the Address of iwd's group IPv6, as request 2026-03 says: none where the value breaks its kind.
use Rattle.std.specs.Prelude.{ℕ, List, [], ◌∷◌, Option, None}
use Rattle.text.specs.Options.{and_then, mapped}
use Rattle.text.specs.Parts.{pieces}
use Rattle.text.specs.Words.{word}
use Rattle.addresses.specs.Addresses.{prefix_length_of}
use Rattle.addressing.specs.Addressing.{Addressing}
use Rattle.addressing.specs.Settings.{addressing}
use Rattle.ipv6.specs.Ipv6.{ipv6}

-- "ConnMan's IPv6 gains address/length with an optional gateway", beside `off` and `auto`; "Lengths run from 1 to 128 without leading zero."
unfoldable pub connman_ipv6 : List ℕ → Option Addressing
connman_ipv6 s = addressing (word "auto") ipv6 (prefix_length_of 128) s

-- "iwd's group gains Address (length 128 if left off)": an address and its length
pub record WithLength : Type 0 where
  pub address : List ℕ
  pub length : ℕ

abbrev pub address_length : List (List ℕ) → Option WithLength
address_length [] = None
address_length (a ∷ []) = mapped (λ x. record { address = x; length = 128 }) (ipv6 a)
address_length (a ∷ m ∷ []) = and_then (ipv6 a) (λ x. mapped (λ n. record { address = x; length = n }) (prefix_length_of 128 m))
address_length (a ∷ m ∷ b ∷ t) = None

unfoldable pub with_length : List ℕ → Option WithLength
with_length s = address_length (pieces 47 s)
