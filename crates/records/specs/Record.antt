-- The join record: what document 01 puts into it, and the one definition that lays it out in the code's types.
use Rattle.std.specs.Prelude.{ℕ, Bool, List, [], length, take, replicate, Some}
use Rattle.text.specs.Parts.{padded}
use Rattle.addresses.specs.Addresses.{rows}
use Rattle.addressing.specs.Addressing.{Addressing, method_of, address_of, length_of, has_gateway_of, gateway_of, addressing_in}
use Rattle.records.specs.declared.Credential.{Credential}
use Rattle.records.specs.declared.Credential.TheVariants.{Passphrase, Key}
use Rattle.records.specs.declared.JoinRecord.{JoinRecord}

-- "credential (none, passphrase of 8 to 63 bytes, or 32-byte key)"
pub data Secret : Type 0 where
  no_secret : Secret
  passphrase : List ℕ → Secret
  key : List ℕ → Secret

-- "Network name; credential ..; hidden; IPv4 as dhcp, off, or static with address, length 1 to 32 and perhaps a gateway;
-- 0 to 4 name servers in order; domain of 0 to 253 bytes, 0 meaning absent; IPv6 auto or off.", and by request 2026-03 static too
pub record Join : Type 0 where
  pub name : List ℕ
  pub credential : Secret
  pub hidden : Bool
  pub ipv4 : Addressing
  pub servers : List (List ℕ)
  pub domain : List ℕ
  pub ipv6 : Addressing

-- ---- its layout: "Places not in use are zero"

abbrev pub credential_of : Secret → Credential
credential_of no_secret = Credential.None
credential_of (passphrase p) = Passphrase
credential_of (key k) = Key

abbrev pub passphrase_of : Secret → List ℕ
passphrase_of no_secret = []
passphrase_of (passphrase p) = p
passphrase_of (key k) = []

abbrev pub key_of : Secret → List ℕ
key_of no_secret = replicate 32 0
key_of (passphrase p) = replicate 32 0
key_of (key k) = k

abbrev pub laid : Join → JoinRecord
laid j =
    record {
      name_len = length j.name;
      name = padded 32 j.name;
      credential = credential_of j.credential;
      passphrase_len = length (passphrase_of j.credential);
      passphrase = padded 63 (passphrase_of j.credential);
      key = key_of j.credential;
      hidden = j.hidden;
      ipv4 = method_of j.ipv4;
      address = address_of 4 j.ipv4;
      length = length_of j.ipv4;
      has_gateway = has_gateway_of j.ipv4;
      gateway = gateway_of 4 j.ipv4;
      server_count = length j.servers;
      domain_len = length j.domain;
      domain = padded 253 j.domain;
      ipv6 = method_of j.ipv6;
      ipv6_address = address_of 16 j.ipv6;
      ipv6_length = length_of j.ipv6;
      has_ipv6_gateway = has_gateway_of j.ipv6;
      ipv6_gateway = gateway_of 16 j.ipv6;
    }

-- the name servers, which stand beside the record
abbrev pub laid_servers : Join → List (List ℕ)
laid_servers j = rows (Some j.servers)

-- ---- the other way: the record that a struct and its servers hold

abbrev pub secret_of : Credential → List ℕ → List ℕ → Secret
secret_of Credential.None p k = no_secret
secret_of Passphrase p k = passphrase p
secret_of Key p k = key k

abbrev pub joined : JoinRecord → List (List ℕ) → Join
joined r s =
    record {
      name = take r.name_len r.name;
      credential = secret_of r.credential (take r.passphrase_len r.passphrase) r.key;
      hidden = r.hidden;
      ipv4 = addressing_in r.ipv4 r.address r.length r.has_gateway r.gateway;
      servers = take r.server_count s;
      domain = take r.domain_len r.domain;
      ipv6 = addressing_in r.ipv6 r.ipv6_address r.ipv6_length r.has_ipv6_gateway r.ipv6_gateway;
    }
