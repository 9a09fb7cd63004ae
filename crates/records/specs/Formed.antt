-- Well-formed records: which join records document 01 knows ("A record outside this is 19"), and the same by a struct's places.
use Rattle.std.specs.Prelude.{ℕ, ◌≤◌, ◌≡◌, Bool, true, not, ◌&&◌, ◌||◌, List, [], ◌∷◌, eqb, length, take, drop}
use Rattle.text.specs.Bytes.{is_byte, between}
use Rattle.text.specs.Parts.{all}
use Rattle.utf8.specs.Utf8.{record_text}
use Rattle.addresses.specs.Addresses.{is_bytes, is_address, are_addresses}
use Rattle.names.specs.Names.{NetworkName}
use Rattle.addressing.specs.Addressing.{Addressing, Good}
use Rattle.addressing.specs.declared.Method.{Method}
use Rattle.addressing.specs.declared.Method.TheVariants.{Auto, Off, Static}
use Rattle.records.specs.Record.{Secret, no_secret, passphrase, key, Join, laid, laid_servers}
use Rattle.records.specs.declared.Credential.{Credential}
use Rattle.records.specs.declared.Credential.TheVariants.{Passphrase, Key}
use Rattle.records.specs.declared.JoinRecord.{JoinRecord}

-- "Passphrase and domain are UTF-8 without byte 0.": a rule for each
abbrev pub passphrase_text : List ℕ → Bool
passphrase_text p = record_text p

abbrev pub domain_text : List ℕ → Bool
domain_text d = record_text d

-- ---- of a join record

-- "passphrase of 8 to 63 bytes"
pub record GoodPassphrase (p : List ℕ) : Type 0 where
  pub low : 8 ≤ length p
  pub high : length p ≤ 63
  pub text : passphrase_text p ≡ true

-- "32-byte key"
pub record GoodKey (k : List ℕ) : Type 0 where
  pub long : length k ≡ 32
  pub bytes : all is_byte k ≡ true

abbrev pub GoodSecret : Secret → Type 0
GoodSecret no_secret = Unit
GoodSecret (passphrase p) = GoodPassphrase p
GoodSecret (key k) = GoodKey k

-- "IPv4 as dhcp, off, or static with address, length 1 to 32 and perhaps a gateway": an address is four bytes
abbrev pub GoodIpv4 : Addressing → Type 0
GoodIpv4 i = Good 4 32 i

-- "The join record gains the static case": "sixteen bytes", "Lengths run from 1 to 128" (2026-03)
abbrev pub GoodIpv6 : Addressing → Type 0
GoodIpv6 i = Good 16 128 i

-- "0 to 4 name servers in order"
pub record GoodServers (l : List (List ℕ)) : Type 0 where
  pub high : length l ≤ 4
  pub addresses : are_addresses l ≡ true

-- "domain of 0 to 253 bytes, 0 meaning absent"
pub record GoodDomain (d : List ℕ) : Type 0 where
  pub high : length d ≤ 253
  pub text : domain_text d ≡ true

pub record WellFormed (j : Join) : Type 0 where
  pub name : NetworkName j.name
  pub credential : GoodSecret j.credential
  pub ipv4 : GoodIpv4 j.ipv4
  pub servers : GoodServers j.servers
  pub domain : GoodDomain j.domain
  pub ipv6 : GoodIpv6 j.ipv6

-- a struct and servers in which a well-formed record is laid out
pub record Laid (r : JoinRecord) (s : List (List ℕ)) : Type 0 where
  pub join : Join
  pub good : WellFormed join
  pub struct : laid join ≡ r
  pub servers : laid_servers join ≡ s

-- ---- of a struct and its servers, by their places: "Places not in use are zero"

-- a zero is a byte from 0 to 0
abbrev pub zeros : List ℕ → Bool
zeros a = all (between 0 0) a

abbrev pub zero_rows : List (List ℕ) → Bool
zero_rows [] = true
zero_rows (a ∷ l) = zeros a && zero_rows l

-- of an array the first n places are in use, low to high of them, and the others are zero; high is at most the array's
-- length, so a length above its array is refused
abbrev pub held : ℕ → ℕ → ℕ → List ℕ → Bool
held low high n a = between low high n && zeros (drop n a)

abbrev pub passphrase_formed : ℕ → List ℕ → Bool
passphrase_formed n p = held 8 63 n p && passphrase_text (take n p)

abbrev pub credential_formed : Credential → ℕ → List ℕ → List ℕ → Bool
credential_formed Credential.None n p k = held 0 0 n p && zeros k
credential_formed Passphrase n p k = passphrase_formed n p && zeros k
credential_formed Key n p k = held 0 0 n p

-- without an address, and with one
abbrev pub unaddressed : List ℕ → ℕ → Bool → List ℕ → Bool
unaddressed a n h g = (zeros a && eqb n 0) && (not h && zeros g)

abbrev pub addressed : ℕ → ℕ → Bool → List ℕ → Bool
addressed most n h g = between 1 most n && (h || zeros g)

abbrev pub addressing_formed : ℕ → Method → List ℕ → ℕ → Bool → List ℕ → Bool
addressing_formed most Auto a n h g = unaddressed a n h g
addressing_formed most Off a n h g = unaddressed a n h g
addressing_formed most Static a n h g = addressed most n h g

abbrev pub ipv4_formed : JoinRecord → Bool
ipv4_formed r = addressing_formed 32 r.ipv4 r.address r.length r.has_gateway r.gateway

abbrev pub ipv6_formed : JoinRecord → Bool
ipv6_formed r = addressing_formed 128 r.ipv6 r.ipv6_address r.ipv6_length r.has_ipv6_gateway r.ipv6_gateway

abbrev pub servers_formed : ℕ → List (List ℕ) → Bool
servers_formed n s = between 0 4 n && zero_rows (drop n s)

abbrev pub domain_formed : ℕ → List ℕ → Bool
domain_formed n d = held 0 253 n d && domain_text (take n d)

unfoldable pub formed : JoinRecord → List (List ℕ) → Bool
formed r s =
    held 1 32 r.name_len r.name
    && (credential_formed r.credential r.passphrase_len r.passphrase r.key
    && (ipv4_formed r
    && (ipv6_formed r
    && (domain_formed r.domain_len r.domain && servers_formed r.server_count s))))

-- what the types say of the arrays of a struct and its servers: their lengths, and that they hold bytes
pub record Arrays (r : JoinRecord) (s : List (List ℕ)) : Type 0 where
  pub name : length r.name ≡ 32
  pub name_bytes : all is_byte r.name ≡ true
  pub passphrase : length r.passphrase ≡ 63
  pub key : length r.key ≡ 32
  pub key_bytes : all is_byte r.key ≡ true
  pub address : is_address r.address ≡ true
  pub gateway : is_address r.gateway ≡ true
  pub servers : length s ≡ 4
  pub server_bytes : are_addresses s ≡ true
  pub domain : length r.domain ≡ 253
  pub ipv6_address_of : is_bytes 16 r.ipv6_address ≡ true
  pub ipv6_gateway_of : is_bytes 16 r.ipv6_gateway ≡ true
