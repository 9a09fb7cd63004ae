-- The counts of a formed record lie in their arrays.
use Prim.Native.Nat.{ℕ, ◌≤◌}
use native.Mathlib.Omega.{arith}
use mathlib.Core.Path.{◌≡◌}
use mathlib.Core.Bool.{Bool, true, not, ◌&&◌, ◌||◌}
use mathlib.Core.List.{List}
use borrow.Author.Tests.{eqb-true}
use lib.Dec.{eqb}
use lib.ListN.{take, drop}
use Rattle.text.specs.Bytes.{between}
use Rattle.text.specs.Laws.{and_true, between_high}
use Rattle.addressing.specs.declared.Method.{Method}
use Rattle.addressing.specs.declared.Method.TheVariants.{Auto, Off, Static}
use Rattle.records.specs.Formed.{passphrase_text, zeros, zero_rows, held, credential_formed, unaddressed, addressing_formed, servers_formed, formed}
use Rattle.records.specs.Laws.{formed_parts}
use Rattle.records.specs.declared.Credential.{Credential}
use Rattle.records.specs.declared.Credential.TheVariants as C
use Rattle.records.specs.declared.JoinRecord.{JoinRecord}
use Rattle.written.specs.RecordParts.{CountsWithin}

held_most : (low high n : ℕ) (a : List ℕ) → held low high n a ≡ true → n ≤ high
held_most low high n a h = between_high {x = n} low high (and_true (between low high n) (zeros (drop n a)) h).0

credential_most : (c : Credential) (n : ℕ) (p k : List ℕ) → credential_formed c n p k ≡ true → n ≤ 63
credential_most C.None n p k h = omega (arith, held_most 0 0 n p (and_true (held 0 0 n p) (zeros k) h).0)
credential_most C.Passphrase n p k h =
    let q = (and_true (held 8 63 n p && passphrase_text (take n p)) (zeros k) h).0 in
    held_most 8 63 n p (and_true (held 8 63 n p) (passphrase_text (take n p)) q).0
credential_most C.Key n p k h = omega (arith, held_most 0 0 n p h)

unaddressed_most : (a : List ℕ) (n : ℕ) (h : Bool) (g : List ℕ) → unaddressed a n h g ≡ true → n ≤ 32
unaddressed_most a n h g e =
    let q = (and_true (zeros a && eqb n 0) (not h && zeros g) e).0 in
    omega (arith, eqb-true n 0 (and_true (zeros a) (eqb n 0) q).1)

ipv4_most : (m : Method) (a : List ℕ) (n : ℕ) (h : Bool) (g : List ℕ) → addressing_formed 32 m a n h g ≡ true → n ≤ 32
ipv4_most Auto a n h g e = unaddressed_most a n h g e
ipv4_most Off a n h g e = unaddressed_most a n h g e
ipv4_most Static a n h g e = between_high {x = n} 1 32 (and_true (between 1 32 n) (h || zeros g) e).0

servers_most : (n : ℕ) (s : List (List ℕ)) → servers_formed n s ≡ true → n ≤ 4
servers_most n s h = between_high {x = n} 0 4 (and_true (between 0 4 n) (zero_rows (drop n s)) h).0

pub formed_within : (r : JoinRecord) (s : List (List ℕ)) → formed r s ≡ true → CountsWithin r
formed_within r s h =
    let p = formed_parts r s h in
    record {
      name = held_most 1 32 r.name_len r.name p.name;
      passphrase = credential_most r.credential r.passphrase_len r.passphrase r.key p.credential;
      length = ipv4_most r.ipv4 r.address r.length r.has_gateway r.gateway p.ipv4;
      servers = servers_most r.server_count s p.servers;
      domain = held_most 0 253 r.domain_len r.domain p.domain;
    }
