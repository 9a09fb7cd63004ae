-- The join record and its struct: a well-formed record laid out is formed, and a formed struct is a well-formed record laid out.
use Rattle.std.specs.Prelude.{◌≡◌, refl, true, List, ℕ, ◌-◌, ◌≤◌, length, take, replicate}
use Rattle.std.proofs.Common.{ap₂, sym, ◌∙◌, subst, le_refl, arith, length-append}
use Rattle.std.proofs.lemmas.List.{length-replicate}
use Rattle.std.proofs.Math.Seq.{take-append_seam}
use Rattle.text.specs.Bytes.{is_byte}
use Rattle.text.specs.Laws.{and_true, all_append}
use Rattle.addresses.specs.Addresses.{no_address}
use Rattle.records.specs.Record.{Join, passphrase_of, laid, laid_servers, joined}
use Rattle.records.specs.Formed.{domain_text, WellFormed, Laid, held, credential_formed, ipv4_formed, ipv6_formed, servers_formed, domain_formed, formed, Arrays}
use Rattle.records.specs.declared.JoinRecord.{JoinRecord}
use Rattle.records.specs.PartLaws.{all_take, held_padded, text_padded, held_low, held_high, held_long, held_back, secret_formed, secret_joined, SecretBack, secret_back, addressing_formed_lem, addressing_joined, AddressingBack, addressing_back, servers_formed_lem, servers_long, servers_back, servers_good, padded_long, all_zeros, are_append, are_none, secret_short, secret_key, addressing_arrays}

-- a formed struct by its parts
pub record Parts (r : JoinRecord) (s : List (List ℕ)) : Type 0 where
  pub name : held 1 32 r.name_len r.name ≡ true
  pub credential : credential_formed r.credential r.passphrase_len r.passphrase r.key ≡ true
  pub ipv4 : ipv4_formed r ≡ true
  pub ipv6 : ipv6_formed r ≡ true
  pub domain : held 0 253 r.domain_len r.domain ≡ true
  pub text : domain_text (take r.domain_len r.domain) ≡ true
  pub servers : servers_formed r.server_count s ≡ true

pub formed_parts : (r : JoinRecord) (s : List (List ℕ)) → formed r s ≡ true → Parts r s
unfolding formed
formed_parts r s h =
    let a = and_true (held 1 32 r.name_len r.name) _ h in
    let b = and_true (credential_formed r.credential r.passphrase_len r.passphrase r.key) _ a.1 in
    let c = and_true (ipv4_formed r) _ b.1 in
    let i = and_true (ipv6_formed r) _ c.1 in
    let d = and_true (domain_formed r.domain_len r.domain) (servers_formed r.server_count s) i.1 in
    let e = and_true (held 0 253 r.domain_len r.domain) (domain_text (take r.domain_len r.domain)) d.0 in
    record { name = a.0; credential = b.0; ipv4 = c.0; ipv6 = i.0; domain = e.0; text = e.1; servers = d.1 }

-- a well-formed record laid out is formed
pub laid_formed : (j : Join) → WellFormed j → formed (laid j) (laid_servers j) ≡ true
unfolding formed
laid_formed j w =
    rw (held_padded 1 32 32 j.name w.name.low w.name.high, secret_formed j.credential w.credential, addressing_formed_lem 4 32 j.ipv4 w.ipv4, addressing_formed_lem 16 128 j.ipv6 w.ipv6, held_padded 0 253 253 j.domain (omega arith) w.domain.high, text_padded 253 j.domain, w.domain.text)
    (servers_formed_lem j.servers w.servers.high)

-- the record of a layout is the record that was laid out
pub joined_laid : (j : Join) → joined (laid j) (laid_servers j) ≡ j
joined_laid j =
    rw (text_padded 32 j.name, secret_joined j.credential, addressing_joined 4 j.ipv4, addressing_joined 16 j.ipv6, take-append_seam j.servers (replicate (4 - length j.servers) no_address), text_padded 253 j.domain)

module _ {r : JoinRecord} {s : List (List ℕ)} (a : Arrays r s) (h : formed r s ≡ true) where
  parts : Parts r s
  parts = formed_parts r s h

  secret : SecretBack r.credential r.passphrase_len r.passphrase r.key
  secret = secret_back r.passphrase_len r.passphrase r.key a.passphrase a.key r.credential a.key_bytes parts.credential

  ipv4s : AddressingBack 4 32 r.ipv4 r.address r.length r.has_gateway r.gateway
  ipv4s = addressing_back 4 32 r.address r.length r.gateway a.address a.gateway r.ipv4 r.has_gateway parts.ipv4

  ipv6s : AddressingBack 16 128 r.ipv6 r.ipv6_address r.ipv6_length r.has_ipv6_gateway r.ipv6_gateway
  ipv6s =
      addressing_back 16 128 r.ipv6_address r.ipv6_length r.ipv6_gateway a.ipv6_address_of a.ipv6_gateway_of r.ipv6 r.has_ipv6_gateway parts.ipv6

  -- the record of a formed struct is well formed
  pub joined_good : WellFormed (joined r s)
  joined_good =
      record {
        name =
            record {
              low = omega (arith, held_low 1 32 32 r.name_len r.name a.name (le_refl 32) parts.name, held_long 1 32 32 r.name_len r.name a.name (le_refl 32) parts.name);
              high = omega (arith, held_high 1 32 32 r.name_len r.name a.name (le_refl 32) parts.name, held_long 1 32 32 r.name_len r.name a.name (le_refl 32) parts.name);
              bytes = all_take is_byte r.name_len r.name a.name_bytes;
            };
        credential = secret.good;
        ipv4 = ipv4s.good;
        ipv6 = ipv6s.good;
        servers = servers_good r.server_count s a.servers a.server_bytes parts.servers;
        domain =
            record {
              high = omega (arith, held_high 0 253 253 r.domain_len r.domain a.domain (le_refl 253) parts.domain, held_long 0 253 253 r.domain_len r.domain a.domain (le_refl 253) parts.domain);
              text = parts.text;
            };
      }

  -- and laid out it is that struct, and those servers
  pub laid_joined : laid (joined r s) ≡ r
  laid_joined =
      rw (held_back 1 32 32 r.name_len r.name a.name (le_refl 32) parts.name, held_long 1 32 32 r.name_len r.name a.name (le_refl 32) parts.name, secret.kind, secret.text, secret.long, secret.bytes, ipv4s.method, ipv4s.address, ipv4s.size, ipv4s.routed, ipv4s.gateway, ipv6s.method, ipv6s.address, ipv6s.size, ipv6s.routed, ipv6s.gateway, servers_long r.server_count s a.servers a.server_bytes parts.servers, held_back 0 253 253 r.domain_len r.domain a.domain (le_refl 253) parts.domain, held_long 0 253 253 r.domain_len r.domain a.domain (le_refl 253) parts.domain)

  pub laid_joined_servers : laid_servers (joined r s) ≡ s
  laid_joined_servers = servers_back r.server_count s a.servers a.server_bytes parts.servers

  pub formed_laid : Laid r s
  formed_laid = record { join = joined r s; good = joined_good; struct = laid_joined; servers = laid_joined_servers }

-- the other way: formed is any struct in which a well-formed record is laid out
pub laid_is_formed : {r : JoinRecord} {s : List (List ℕ)} → Laid r s → formed r s ≡ true
laid_is_formed {s = s} l =
    subst (λ (x : JoinRecord). formed x s ≡ true) l.struct
    (subst (λ (x : List (List ℕ)). formed (laid l.join) x ≡ true) l.servers (laid_formed l.join l.good))

-- no struct and servers are the layout of two records
pub laid_one : (i j : Join) → laid i ≡ laid j → laid_servers i ≡ laid_servers j → i ≡ j
laid_one i j p q = sym (joined_laid i) ∙ ap₂ joined p q ∙ joined_laid j

-- the arrays of a layout have the lengths of the struct's, and hold bytes
pub laid_arrays : (j : Join) → WellFormed j → Arrays (laid j) (laid_servers j)
laid_arrays j w =
    record {
      name = padded_long 32 j.name w.name.high;
      name_bytes = all_append is_byte j.name (replicate (32 - length j.name) 0) w.name.bytes (all_zeros is_byte refl (32 - length j.name));
      passphrase = padded_long 63 (passphrase_of j.credential) (secret_short j.credential w.credential);
      key = (secret_key j.credential w.credential).long;
      key_bytes = (secret_key j.credential w.credential).bytes;
      address = (addressing_arrays 4 32 j.ipv4 w.ipv4).0;
      gateway = (addressing_arrays 4 32 j.ipv4 w.ipv4).1;
      ipv6_address_of = (addressing_arrays 16 128 j.ipv6 w.ipv6).0;
      ipv6_gateway_of = (addressing_arrays 16 128 j.ipv6 w.ipv6).1;
      servers = let h : length j.servers ≤ 4 = w.servers.high in simp (length-append, length-replicate) (omega arith);
      server_bytes = are_append j.servers (replicate (4 - length j.servers) no_address) w.servers.addresses (are_none (4 - length j.servers));
      domain = padded_long 253 j.domain w.domain.high;
    }
