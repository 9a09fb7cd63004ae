-- The counts of a service's record lie in their arrays, whatever its settings: each kind reads no more than its place holds.
use Prim.Native.Nat.{ℕ, ◌≤◌}
use native.Mathlib.Omega.{arith}
use mathlib.Core.Path.{◌≡◌, refl}
use mathlib.Core.List.{List}
use Rattle.std.specs.Prelude.{Option, None, Some}
use lib.ListN.{length}
use Rattle.text.specs.Options.{or_empty}
use Rattle.text.specs.Words.{word}
use Rattle.addresses.specs.Addresses.{addresses}
use Rattle.addresses.specs.declared.Separator.TheVariants.{Comma}
use Rattle.kinds.specs.Kinds as K
use Rattle.connman_ipv4.specs.ConnmanIpv4.{ipv4}
use Rattle.addressing.specs.Addressing.{Addressing, auto, off, static, length_of, or_auto, Good}
use Rattle.hex_values.specs.HexValues.{ssid}
use Rattle.kinds.specs.Kinds.{string}
use Rattle.addresses.specs.Laws.{addresses_good}
use Rattle.connman_ipv4.specs.Laws.{ipv4_good}
use Rattle.hex_values.specs.Laws.{ssid_size}
use Rattle.kinds.proofs.ValueRuleLaws.{string_size}
use Rattle.rules.specs.Tables.{keys_of}
use Rattle.rules.specs.Sections.{Entry}
use Rattle.rules.specs.Asking.{read_as}
use Rattle.records.specs.Record.{passphrase_of, laid}
use Rattle.written.specs.RecordParts.{CountsWithin}
use Rattle.joins.specs.Joins.{secret_from, name_from, service_join}

-- what a kind reads has at most m elements
read_short : {A : Type 0} (f : List ℕ → Option (List A)) (m : ℕ) →
    ((v : List ℕ) (t : List A) → f v ≡ Some t → length t ≤ m) → (o : Option Entry) → length (or_empty (read_as f o)) ≤ m
read_short f m h None = omega arith
read_short {A} f m h (Some e) = go (f e.value) refl
  where
    go : (o : Option (List A)) → f e.value ≡ o → length (or_empty o) ≤ m
    go None q = omega arith
    go (Some t) q = h e.value t q

name_short : (s n : Option (List ℕ)) → length (or_empty s) ≤ 32 → length (or_empty n) ≤ 32 → length (name_from s n) ≤ 32
name_short (Some s) n h g = h
name_short None n h g = g

secret_plain : (o : Option (List ℕ)) → passphrase_of (secret_from o None) ≡ or_empty o
secret_plain None = refl
secret_plain (Some p) = refl

numbers_short : (o : Option Entry) → length_of (or_auto (read_as ipv4 o)) ≤ 32
numbers_short None = omega arith
numbers_short (Some e) = go (ipv4 e.value) refl
  where
    good : (i : Addressing) → Good 4 32 i → length_of i ≤ 32
    good auto h = omega arith
    good off h = omega arith
    good (static a n g) h = h.high

    go : (o : Option Addressing) → ipv4 e.value ≡ o → length_of (or_auto o) ≤ 32
    go None q = omega arith
    go (Some i) q = good i (ipv4_good e.value q)

pub join_within : (at : List ℕ → Option Entry) → CountsWithin (laid (service_join at))
unfolding keys_of
join_within at =
    record {
      name = name_short (read_as ssid (at (word "SSID"))) (read_as (string 1 32) (at (word "Name"))) (read_short ssid 32 (λ v t e. (ssid_size v e).1) (at (word "SSID"))) (read_short (string 1 32) 32 (λ v t e. (string_size 1 32 v e).1) (at (word "Name")));
      passphrase = rw (secret_plain (read_as K.passphrase (at (word "Passphrase")))) (read_short K.passphrase 63 (λ v t e. (string_size 8 63 v e).1) (at (word "Passphrase")));
      length = numbers_short (at (word "IPv4"));
      servers = read_short (addresses Comma) 4 (λ v t e. (addresses_good Comma v e).1) (at (word "Nameservers"));
      domain = read_short (string 1 253) 253 (λ v t e. (string_size 1 253 v e).1) (at (word "Domain"));
    }
