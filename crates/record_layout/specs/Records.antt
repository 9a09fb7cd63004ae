-- The join record with its name servers in the C boundary's struct, and the record that a caller brings in one.
use Rattle.std.specs.Prelude.{ℕ, ◌+◌, ◌<◌, ◌≡◌, Bool, true, ◌&&◌, List, [], ◌∷◌, ◌++◌, leb, length, get_or, replicate}
use Rattle.text.specs.Bytes.{is_byte, between}
use Rattle.text.specs.Parts.{all}
use Rattle.addresses.specs.Addresses.{no_address, is_bytes, is_address}
use Rattle.records.specs.declared.JoinRecord.{JoinRecord}
use Rattle.codes.specs.Codes.{bit_of, credential_code, method_code, bit_in, credential_in, method_in}
use Rattle.record_layout.specs.declared.CRecord.{CRecord}

-- four bytes of b from i on
abbrev pub four_at : List ℕ → ℕ → List ℕ
four_at b i = get_or b i 0 ∷ get_or b (i + 1) 0 ∷ get_or b (i + 2) 0 ∷ get_or b (i + 3) 0 ∷ []

-- four name servers as 16 bytes, and 16 bytes as four name servers
abbrev pub sixteen : List (List ℕ) → List ℕ
sixteen s = four_at (get_or s 0 []) 0 ++ four_at (get_or s 1 []) 0 ++ four_at (get_or s 2 []) 0 ++ four_at (get_or s 3 []) 0

abbrev pub fours : List ℕ → List (List ℕ)
fours b = four_at b 0 ∷ four_at b 4 ∷ four_at b 8 ∷ four_at b 12 ∷ []

-- what the lent name servers hold before they are asked for
abbrev pub lent_servers : List (List ℕ)
lent_servers = replicate 4 no_address

-- ---- what is handed out

abbrev pub record_at : JoinRecord → List (List ℕ) → CRecord
record_at r s =
    record {
      name_len = r.name_len;
      name = r.name;
      credential = credential_code r.credential;
      passphrase_len = r.passphrase_len;
      passphrase = r.passphrase;
      key = r.key;
      hidden = bit_of r.hidden;
      ipv4 = method_code r.ipv4;
      address = r.address;
      prefix_length = r.length;
      has_gateway = bit_of r.has_gateway;
      gateway = r.gateway;
      server_count = r.server_count;
      servers = sixteen s;
      domain_len = r.domain_len;
      domain = r.domain;
      ipv6 = method_code r.ipv6;
      ipv6_address = r.ipv6_address;
      ipv6_prefix_length = r.ipv6_length;
      has_ipv6_gateway = bit_of r.has_ipv6_gateway;
      ipv6_gateway = r.ipv6_gateway;
    }

-- the lengths and the count of a record fit a byte
pub record FitsBytes (r : JoinRecord) : Type 0 where
  pub name : r.name_len < 256
  pub passphrase : r.passphrase_len < 256
  pub servers : r.server_count < 256
  pub domain : r.domain_len < 256

-- ---- what is brought in

-- what the types say of the arrays of a record that is brought in: their lengths, and that they hold bytes
pub record CArrays (c : CRecord) : Type 0 where
  pub name : length c.name ≡ 32
  pub name_bytes : all is_byte c.name ≡ true
  pub passphrase : length c.passphrase ≡ 63
  pub key : length c.key ≡ 32
  pub key_bytes : all is_byte c.key ≡ true
  pub address : is_address c.address ≡ true
  pub gateway : is_address c.gateway ≡ true
  pub servers : length c.servers ≡ 16
  pub server_bytes : all (between 0 255) c.servers ≡ true
  pub domain : length c.domain ≡ 253
  pub ipv6_address_of : is_bytes 16 c.ipv6_address ≡ true
  pub ipv6_gateway_of : is_bytes 16 c.ipv6_gateway ≡ true

-- every code is that of a case
abbrev pub known : CRecord → Bool
known c =
    leb c.credential 2
    && (leb c.hidden 1
    && (leb c.ipv4 2
    && (leb c.has_gateway 1
    && (leb c.ipv6 2
    && leb c.has_ipv6_gateway 1))))

abbrev pub record_in : CRecord → JoinRecord
record_in c =
    record {
      name_len = c.name_len;
      name = c.name;
      credential = credential_in c.credential;
      passphrase_len = c.passphrase_len;
      passphrase = c.passphrase;
      key = c.key;
      hidden = bit_in c.hidden;
      ipv4 = method_in c.ipv4;
      address = c.address;
      length = c.prefix_length;
      has_gateway = bit_in c.has_gateway;
      gateway = c.gateway;
      server_count = c.server_count;
      domain_len = c.domain_len;
      domain = c.domain;
      ipv6 = method_in c.ipv6;
      ipv6_address = c.ipv6_address;
      ipv6_length = c.ipv6_prefix_length;
      has_ipv6_gateway = bit_in c.has_ipv6_gateway;
      ipv6_gateway = c.ipv6_gateway;
    }

abbrev pub servers_in : CRecord → List (List ℕ)
servers_in c = fours c.servers
