-- What the types of a record and its servers tell of their arrays: `Arrays`.
use Prim.Native.Nat.{ℕ}
use mathlib.Core.Path.{◌≡◌, refl}
use mathlib.Core.Bool.{true}
use mathlib.Core.List.{List, [], ◌∷◌}
use native.Mathlib.Omega.{arith}
use borrow.Author.Tests.{lt-ltb}
use lib.ListN.{length}
use mir.Syntax.{w8}
use mir.Val.{Val}
use denote.Laws.{Is}
use denote.Plain.{UInt}
use denote.Array.{Array, each}
use denote.Shadow.{shadow}
use denote.Struct.Declared.{row}
use Rattle.text.specs.Bytes.{is_byte, between}
use Rattle.text.specs.Parts.{all}
use Rattle.text.specs.Laws.{inside}
use Rattle.addresses.specs.Addresses.{is_bytes, are_addresses}
use Rattle.addresses.specs.Laws.{are_bytes}
use Rattle.records.specs.Formed.{Arrays}
use Rattle.records.specs.declared.JoinRecord.{JoinRecord}
use Rattle.records.specs.contracts.JoinRecord as J

-- ---- an array

each_bytes : (xs : List ℕ) (us : List Val) → shadow (each ℕ (UInt w8).own_val xs us) → all is_byte xs ≡ true
each_bytes [] us p = refl
each_bytes (x ∷ xs) [] p = absurd p
each_bytes (x ∷ xs) (u ∷ us) p = rw (lt-ltb x 256 p.0.1) (each_bytes xs us p.1)

each_between : (xs : List ℕ) (us : List Val) → shadow (each ℕ (UInt w8).own_val xs us) → all (between 0 255) xs ≡ true
each_between [] us p = refl
each_between (x ∷ xs) [] p = absurd p
each_between (x ∷ xs) (u ∷ us) p = rw (inside {x = x} 0 255 (omega arith) (omega (arith, p.0.1))) (each_between xs us p.1)

module _ (n : ℕ) (xs : List ℕ) (vs : List Val) (p : Is (Array (UInt w8) n) xs vs) where
  long : length xs ≡ n
  long = p.1.0.1

  bytes : all is_byte xs ≡ true
  bytes = each_bytes xs p.0 p.1.1

address : (n : ℕ) (xs : List ℕ) (vs : List Val) → Is (Array (UInt w8) n) xs vs → is_bytes n xs ≡ true
address n xs vs p = are_bytes n xs (long n xs vs p) (each_between xs p.0 p.1.1)

each_address : (s : List (List ℕ)) (us : List Val) → shadow (each (List ℕ) (Array (UInt w8) 4).own_val s us) → are_addresses s ≡ true
each_address [] us p = refl
each_address (a ∷ s) [] p = absurd p
each_address (a ∷ s) (u ∷ us) p = rw (address 4 a (u ∷ []) p.0) (each_address s us p.1)

-- ---- the arrays of a record, and its servers

pub typed_arrays : (r : JoinRecord) (s : List (List ℕ)) (vs ws : List Val) → Is (row J.the_type) r vs → Is (Array (Array (UInt w8) 4) 4) s ws → Arrays r s
typed_arrays r s vs ws p q =
    let name = p.1.1.1.0 in
    let key = p.1.1.1.1.1.1.1.0 in
    record {
      name = long 32 r.name _ name;
      name_bytes = bytes 32 r.name _ name;
      passphrase = long 63 r.passphrase _ p.1.1.1.1.1.1.0;
      key = long 32 r.key _ key;
      key_bytes = bytes 32 r.key _ key;
      address = address 4 r.address _ p.1.1.1.1.1.1.1.1.1.1.0;
      gateway = address 4 r.gateway _ p.1.1.1.1.1.1.1.1.1.1.1.1.1.0;
      servers = q.1.0.1;
      server_bytes = each_address s q.0 q.1.1;
      domain = long 253 r.domain _ p.1.1.1.1.1.1.1.1.1.1.1.1.1.1.1.1.0;
      ipv6_address_of = address 16 r.ipv6_address _ p.1.1.1.1.1.1.1.1.1.1.1.1.1.1.1.1.1.1.0;
      ipv6_gateway_of = address 16 r.ipv6_gateway _ p.1.1.1.1.1.1.1.1.1.1.1.1.1.1.1.1.1.1.1.1.1.0;
    }
