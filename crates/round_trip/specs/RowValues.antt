-- Each setting that is written of a well-formed record is good: its key is listed, and its value is of that key's kind.
use Rattle.std.specs.Prelude.{ℕ, ◌≤◌, ◌≡◌, refl, true, false, not, List, ◌∷◌, length, Some}
use Rattle.std.proofs.Common.{arith, ap}
use Rattle.text.specs.Bytes.{is_key_byte}
use Rattle.text.specs.Parts.{all, empty}
use Rattle.text.specs.Words.{word}
use Rattle.text.specs.Options.{is_some, mapped}
use Rattle.text.specs.Laws.{inside}
use Rattle.text.specs.declared.Dialect.TheVariants.{Iwd}
use Rattle.escapes.specs.Escapes.{unescape, escape}
use Rattle.escapes.specs.Laws.{unescape_escape}
use Rattle.hex_digits.specs.Hex.{hex}
use Rattle.addresses.specs.Addresses.{is_address, mask_bytes, addresses, dotted, listed}
use Rattle.addresses.specs.Written.{address_dotted, mask_address, netmask_dotted, addresses_listed}
use Rattle.addresses.specs.declared.Separator.TheVariants.{Spaces}
use Rattle.ipv6.specs.Ipv6.{is_ipv6, canonical}
use Rattle.ipv6.specs.Written.{ipv6_canonical}
use Rattle.ipv6_values.specs.Written.{with_length_written}
use Rattle.written.specs.Written.{lengthened}
use Rattle.named_words.specs.NamedWords as NamedWords
use Rattle.kinds.specs.Typed as T
use Rattle.kinds.specs.Typed.{Typed, typed, string_broken}
use Rattle.hex_values.specs.Laws.{pre_shared_key_hex}
use Rattle.kinds.proofs.Written.{StandsOnLine, escape_stands, string_escape, printable_stands, hex_stands, dotted_stands, listed_stands, canonical_stands, with_length_stands}
use Rattle.kinds.specs.declared.Kind.{Kind}
use Rattle.rules.specs.Tables.{keys_of, kind_of}
use Rattle.rules.proofs.GoodValues.{value_faultless}
use Rattle.rules.specs.declared.Group.{Group}
use Rattle.rules.specs.declared.Group.TheVariants.{Settings, Security, Ipv4, Ipv6}
use Rattle.records.specs.Formed.{GoodPassphrase, GoodKey, GoodServers, GoodDomain}
use Rattle.round_trip.specs.Blocks.{GoodRow}

-- a key of group g that can be written, and its kind
record WritableKey (g : Group) (k : List ℕ) (x : Kind) : Type 0 where
  long : empty k ≡ false
  bytes : all (is_key_byte Iwd) k ≡ true
  listed : kind_of g k ≡ Some x

row_good : {g : Group} {k : List ℕ} {x : Kind} {v : List ℕ} {t : Typed} → WritableKey g k x → StandsOnLine v →
    string_broken x v ≡ false → typed Iwd x v ≡ Some t → GoodRow Iwd g (k, v)
row_good {x = x} {v = v} w s b e =
    record {
      kind = x;
      listed = w.listed;
      good = value_faultless Iwd x v s.text b e;
      text = record { some = w.long; bytes = w.bytes; line = s.line; start = s.start; end = refl };
    }

-- ---- words

pub hidden_row : GoodRow Iwd Settings (word "Hidden", word "true")
unfolding keys_of is_key_byte NamedWords.flag typed
hidden_row =
    row_good (record { long = refl; bytes = refl; listed = refl }) (printable_stands (word "true") refl refl) refl refl

pub enabled_row : GoodRow Iwd Ipv6 (word "Enabled", word "false")
unfolding keys_of is_key_byte NamedWords.flag typed
enabled_row =
    row_good (record { long = refl; bytes = refl; listed = refl }) (printable_stands (word "false") refl refl) refl refl

-- ---- strings and keys

escapes_whole : (t : List ℕ) → not (is_some (unescape (escape t))) ≡ false
escapes_whole t = rw (unescape_escape t)

pub passphrase_row : (p : List ℕ) → GoodPassphrase p → GoodRow Iwd Security (word "Passphrase", escape p)
unfolding keys_of is_key_byte typed
passphrase_row p w =
    row_good (record { long = refl; bytes = refl; listed = refl }) (escape_stands p w.text) (escapes_whole p) (ap (mapped T.bytes) (string_escape 8 63 p w.low w.high))

pub key_row : (k : List ℕ) → GoodKey k → GoodRow Iwd Security (word "PreSharedKey", hex k)
unfolding keys_of is_key_byte typed
key_row k w =
    row_good (record { long = refl; bytes = refl; listed = refl }) (hex_stands k w.bytes) refl (ap (mapped T.bytes) (pre_shared_key_hex k w.long w.bytes))

pub domain_row : (c : ℕ) (d : List ℕ) → GoodDomain (c ∷ d) → GoodRow Iwd Ipv4 (word "DomainName", escape (c ∷ d))
unfolding keys_of is_key_byte typed
domain_row c d w =
    row_good (record { long = refl; bytes = refl; listed = refl }) (escape_stands (c ∷ d) w.text) (escapes_whole (c ∷ d)) (ap (mapped T.bytes) (string_escape 1 253 (c ∷ d) (omega arith) w.high))

-- ---- addresses

pub address_row : (a : List ℕ) → is_address a ≡ true → GoodRow Iwd Ipv4 (word "Address", dotted a)
unfolding keys_of is_key_byte typed
address_row a h =
    row_good (record { long = refl; bytes = refl; listed = refl }) (dotted_stands a h) refl (ap (mapped T.address) (address_dotted a h))

pub gateway_row : (a : List ℕ) → is_address a ≡ true → GoodRow Iwd Ipv4 (word "Gateway", dotted a)
unfolding keys_of is_key_byte typed
gateway_row a h =
    row_good (record { long = refl; bytes = refl; listed = refl }) (dotted_stands a h) refl (ap (mapped T.address) (address_dotted a h))

pub netmask_row : (n : ℕ) → 1 ≤ n → n ≤ 32 → GoodRow Iwd Ipv4 (word "Netmask", dotted (mask_bytes n))
unfolding keys_of is_key_byte typed
netmask_row n h g =
    row_good (record { long = refl; bytes = refl; listed = refl }) (dotted_stands (mask_bytes n) (mask_address n g)) refl (ap (mapped T.mask_length) (netmask_dotted n h g))

-- ---- IPv6 addresses

pub ipv6_address_row : (a : List ℕ) (n : ℕ) → is_ipv6 a ≡ true → 1 ≤ n → n ≤ 128 → GoodRow Iwd Ipv6 (word "Address", lengthened a n)
unfolding keys_of is_key_byte typed
ipv6_address_row a n h l g =
    row_good (record { long = refl; bytes = refl; listed = refl }) (with_length_stands a n h g) refl (ap (mapped T.with_length) (with_length_written a n h l g))

pub ipv6_gateway_row : (a : List ℕ) → is_ipv6 a ≡ true → GoodRow Iwd Ipv6 (word "Gateway", canonical a)
unfolding keys_of is_key_byte typed
ipv6_gateway_row a h =
    row_good (record { long = refl; bytes = refl; listed = refl }) (canonical_stands a h) refl (ap (mapped T.address) (ipv6_canonical a h))

-- ---- lists of addresses

pub servers_listed : (a : List ℕ) (l : List (List ℕ)) → GoodServers (a ∷ l) →
    addresses Spaces (listed Spaces (a ∷ l)) ≡ Some (a ∷ l)
servers_listed a l w =
    addresses_listed Spaces (a ∷ l) (inside {x = length (a ∷ l)} 1 4 (omega arith) w.high) w.addresses

pub servers_row : (a : List ℕ) (l : List (List ℕ)) → GoodServers (a ∷ l) →
    GoodRow Iwd Ipv4 (word "DNS", listed Spaces (a ∷ l))
unfolding keys_of is_key_byte typed
servers_row a l w =
    row_good (record { long = refl; bytes = refl; listed = refl }) (listed_stands (a ∷ l) w.addresses) refl (ap (mapped T.addresses) (servers_listed a l w))
