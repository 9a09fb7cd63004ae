-- How a network gets its addresses, said once for IPv4 and IPv6: document 01's "IPv4 as dhcp, off, or static with address, length 1 to 32 and
-- perhaps a gateway", and request 2026-03's "The join record gains the static case".
use Rattle.std.specs.Prelude.{ℕ, ◌≤◌, ◌≡◌, Bool, true, false, List, replicate, Option, None, Some}
use Rattle.text.specs.OptionLaws.{IfSome}
use Rattle.addresses.specs.Addresses.{is_bytes}
use Rattle.addressing.specs.declared.Method.{Method}
use Rattle.addressing.specs.declared.Method.TheVariants.{Auto, Off, Static}

-- by itself, which is dhcp in IPv4; not at all; or an address, its length, and perhaps a gateway
pub data Addressing : Type 0 where
  auto : Addressing
  off : Addressing
  static : List ℕ → ℕ → Option (List ℕ) → Addressing

-- ---- its parts in a struct, where an address has so many bytes: "Places not in use are zero"

abbrev pub method_of : Addressing → Method
method_of auto = Auto
method_of off = Off
method_of (static a n g) = Static

abbrev pub address_of : ℕ → Addressing → List ℕ
address_of width auto = replicate width 0
address_of width off = replicate width 0
address_of width (static a n g) = a

abbrev pub length_of : Addressing → ℕ
length_of auto = 0
length_of off = 0
length_of (static a n g) = n

abbrev pub has_gateway_of : Addressing → Bool
has_gateway_of auto = false
has_gateway_of off = false
has_gateway_of (static a n None) = false
has_gateway_of (static a n (Some g)) = true

abbrev pub gateway_of : ℕ → Addressing → List ℕ
gateway_of width auto = replicate width 0
gateway_of width off = replicate width 0
gateway_of width (static a n None) = replicate width 0
gateway_of width (static a n (Some g)) = g

-- the other way: what such parts say
abbrev pub gateway_if : Bool → List ℕ → Option (List ℕ)
gateway_if false g = None
gateway_if true g = Some g

abbrev pub addressing_in : Method → List ℕ → ℕ → Bool → List ℕ → Addressing
addressing_in Auto a n h g = auto
addressing_in Off a n h g = off
addressing_in Static a n h g = static a n (gateway_if h g)

-- "IPv4 absent is dhcp, IPv6 absent auto"
abbrev pub or_auto : Option Addressing → Addressing
or_auto None = auto
or_auto (Some i) = i

-- ---- which are good: an address is so many bytes, and its length is at most so great

pub record GoodStatic (width most : ℕ) (a : List ℕ) (n : ℕ) (g : Option (List ℕ)) : Type 0 where
  pub address : is_bytes width a ≡ true
  pub low : 1 ≤ n
  pub high : n ≤ most
  pub gateway : IfSome (λ x. is_bytes width x ≡ true) g

abbrev pub Good : ℕ → ℕ → Addressing → Type 0
Good width most auto = Unit
Good width most off = Unit
Good width most (static a n g) = GoodStatic width most a n g
