-- A record's parts as the code has them, and the settings that they give.
use Rattle.std.specs.Prelude.{ℕ, ◌≤◌, ◌≡◌, Bool, true, List, ◌∷◌}
use Rattle.text.specs.Words.{word}
use Rattle.addresses.specs.Addresses.{dotted, mask_bytes}
use Rattle.addressing.specs.Addressing.{Addressing, static, gateway_if, addressing_in}
use Rattle.addressing.specs.declared.Method.{Method}
use Rattle.addressing.specs.declared.Numbers.{Numbers}
use Rattle.names.specs.declared.Suffix.{Suffix}
use Rattle.records.specs.Record.{secret_of}
use Rattle.records.specs.declared.Credential.{Credential}
use Rattle.records.specs.declared.JoinRecord.{JoinRecord}
use Rattle.written.specs.Written.{WrittenRow, gateway_rows, suffix_for}

-- a record's IPv4 and its IPv6 by their places, and what these hold
abbrev pub record_ipv4 : JoinRecord → Numbers 4
record_ipv4 r = record { method = r.ipv4; address = r.address; length = r.length; has_gateway = r.has_gateway; gateway = r.gateway }

abbrev pub record_ipv6 : JoinRecord → Numbers 16
record_ipv6 r = record { method = r.ipv6; address = r.ipv6_address; length = r.ipv6_length; has_gateway = r.has_ipv6_gateway; gateway = r.ipv6_gateway }

abbrev pub numbers_in : {N : ℕ} → Numbers N → Addressing
numbers_in i = addressing_in i.method i.address i.length i.has_gateway i.gateway

-- what they hold where it is static, whatever the method
abbrev pub static_in : {N : ℕ} → Numbers N → Addressing
static_in i = static i.address i.length (gateway_if i.has_gateway i.gateway)

-- the settings of an IPv4 that is static
abbrev pub static_rows : Numbers 4 → List WrittenRow
static_rows i = (word "Address", dotted i.address) ∷ (word "Netmask", dotted (mask_bytes i.length)) ∷ gateway_rows dotted (gateway_if i.has_gateway i.gateway)

-- r is what place says of an address by its method m and by h, whether it has a gateway
pub record PlacedBy (place : Addressing → Bool) (m : Method) (h r : Bool) : Type 0 where
  pub is : (a : List ℕ) (n : ℕ) (g : List ℕ) → r ≡ place (addressing_in m a n h g)

-- the suffix by the credential alone
pub record SuffixOf (c : Credential) (r : Suffix) : Type 0 where
  pub is : (p k : List ℕ) → r ≡ suffix_for (secret_of c p k)

-- the counts of a record lie in their arrays
pub record CountsWithin (r : JoinRecord) : Type 0 where
  pub name : r.name_len ≤ 32
  pub passphrase : r.passphrase_len ≤ 63
  pub length : r.length ≤ 32
  pub servers : r.server_count ≤ 4
  pub domain : r.domain_len ≤ 253
