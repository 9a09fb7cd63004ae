-- What is read from the written settings of each part of a record is that part, and they obey the rules over a file.
use Rattle.std.specs.Prelude.{ℕ, ◌≡◌, Bool, true, not, ◌&&◌, ◌||◌, List, [], ◌∷◌, None, Some}
use Rattle.std.proofs.Common.{arith, sym, true≢false}
use Rattle.std.proofs.Math.Path.{refl}
use Rattle.std.proofs.Math.Bool.{false}
use Rattle.text.specs.Words.{word, same}
use Rattle.text.specs.Options.{is_some, and_then, or_empty}
use Rattle.text.specs.declared.Dialect.TheVariants.{Iwd}
use Rattle.addresses.specs.Addresses.{address, netmask, addresses}
use Rattle.addresses.specs.Written.{address_dotted, netmask_dotted}
use Rattle.addresses.specs.declared.Separator.TheVariants.{Spaces}
use Rattle.ipv6.specs.Ipv6.{ipv6}
use Rattle.ipv6.specs.Written.{ipv6_canonical}
use Rattle.ipv6_values.specs.Ipv6Values.{with_length}
use Rattle.ipv6_values.specs.Written.{with_length_written}
use Rattle.hex_values.specs.HexValues as HexValues
use Rattle.kinds.specs.Kinds as K
use Rattle.named_words.specs.NamedWords.{flag}
use Rattle.addressing.specs.Addressing.{Addressing, auto, off, static}
use Rattle.kinds.specs.Kinds.{string}
use Rattle.hex_values.specs.Laws.{pre_shared_key_hex}
use Rattle.kinds.proofs.Written.{string_escape}
use Rattle.rules.specs.Sections.{Section, entries_in}
use Rattle.rules.specs.Groups.{has, is_no, flag_given, ipv6_disabled, unpaired_by, file_fault}
use Rattle.records.specs.Record.{Secret, no_secret, passphrase, key}
use Rattle.records.specs.Formed.{GoodSecret, GoodIpv4, GoodIpv6, GoodServers, GoodDomain}
use Rattle.written.specs.Written.{hidden_rows, secret_rows, number_rows, server_rows, domain_rows, ipv6_rows, suffix_for, ipv4_placed, ipv6_placed}
use Rattle.joins.specs.Joins.{secret_from, static_or_dhcp, or_false, static_or_auto, unless_off}
use Rattle.round_trip.specs.Blocks.{row_value}
use Rattle.round_trip.specs.RowValues.{servers_listed}

-- ---- each part

pub hidden_rows_read : (b : Bool) → or_false (and_then (row_value (word "Hidden") (hidden_rows b)) (flag Iwd)) ≡ b
unfolding flag
hidden_rows_read false = refl
hidden_rows_read true = refl

pub secret_rows_read : (c : Secret) → GoodSecret c →
    secret_from (and_then (row_value (word "Passphrase") (secret_rows c)) K.passphrase)
    (and_then (row_value (word "PreSharedKey") (secret_rows c)) HexValues.pre_shared_key_of)
    ≡ c
secret_rows_read no_secret w = refl
secret_rows_read (passphrase p) w = rw (string_escape 8 63 p w.low w.high)
secret_rows_read (key k) w = rw (pre_shared_key_hex k w.long w.bytes)

pub number_rows_read : (i : Addressing) → GoodIpv4 i → ipv4_placed i ≡ true →
    static_or_dhcp (and_then (row_value (word "Address") (number_rows i)) address)
    (and_then (row_value (word "Netmask") (number_rows i)) netmask)
    (and_then (row_value (word "Gateway") (number_rows i)) address)
    ≡ i
number_rows_read auto w p = refl
number_rows_read off w p = absurd (true≢false (sym p))
number_rows_read (static a n None) w p = absurd (true≢false (sym p))
number_rows_read (static a n (Some g)) w p = rw (address_dotted a w.address, netmask_dotted n w.low w.high, address_dotted g w.gateway)

pub server_rows_read : (l : List (List ℕ)) → GoodServers l →
    or_empty (and_then (row_value (word "DNS") (server_rows l)) (addresses Spaces)) ≡ l
server_rows_read [] w = refl
server_rows_read (a ∷ l) w = rw (servers_listed a l w)

pub domain_rows_read : (d : List ℕ) → GoodDomain d →
    or_empty (and_then (row_value (word "DomainName") (domain_rows d)) (string 1 253)) ≡ d
domain_rows_read [] w = refl
domain_rows_read (c ∷ d) w = rw (string_escape 1 253 (c ∷ d) (omega arith) w.high)

pub ipv6_rows_read : (i : Addressing) → GoodIpv6 i →
    unless_off (and_then (row_value (word "Enabled") (ipv6_rows i)) (flag Iwd))
    (static_or_auto (and_then (row_value (word "Address") (ipv6_rows i)) with_length) (and_then (row_value (word "Gateway") (ipv6_rows i)) ipv6))
    ≡ i
unfolding flag
ipv6_rows_read auto w = refl
ipv6_rows_read off w = refl
ipv6_rows_read (static a n None) w = rw (with_length_written a n w.address w.low w.high)
ipv6_rows_read (static a n (Some g)) w = rw (with_length_written a n w.address w.low w.high, ipv6_canonical g w.gateway)

-- ---- the rules over a file, of groups gs that have the keys that are written

-- "Address without Gateway; Gateway, Netmask or Broadcast without Address"
abbrev pub numbers_lack : List Section → Bool
numbers_lack gs =
    (has (word "IPv4") (word "Address") gs && not (has (word "IPv4") (word "Gateway") gs))
    || ((has (word "IPv4") (word "Gateway") gs || (has (word "IPv4") (word "Netmask") gs || has (word "IPv4") (word "Broadcast") gs)) && not (has (word "IPv4") (word "Address") gs))

pub numbers_obey : (gs : List Section) (i : Addressing) → ipv4_placed i ≡ true →
    ((k : List ℕ) → same k (word "DNS") ≡ false → same k (word "DomainName") ≡ false → has (word "IPv4") k gs ≡ is_some (row_value k (number_rows i))) →
    numbers_lack gs ≡ false
numbers_obey gs auto p f = rw (f (word "Address") refl refl, f (word "Gateway") refl refl, f (word "Netmask") refl refl, f (word "Broadcast") refl refl)
numbers_obey gs off p f = absurd (true≢false (sym p))
numbers_obey gs (static a n None) p f = absurd (true≢false (sym p))
numbers_obey gs (static a n (Some g)) p f = rw (f (word "Address") refl refl, f (word "Gateway") refl refl)

-- of IPv6 "Gateway without Address or the reverse", and "Enabled false beside Address" (2026-03)
module _ (gs : List Section) (i : Addressing) (f : (k : List ℕ) → has (word "IPv6") k gs ≡ is_some (row_value k (ipv6_rows i))) where
  pub ipv6_pairs : ipv6_placed i ≡ true → unpaired_by (λ k. has (word "IPv6") k gs) ≡ false
  ipv6_pairs p = rw (f (word "Gateway"), f (word "Address")) (go i p)
    where
      go : (i : Addressing) → ipv6_placed i ≡ true → unpaired_by (λ k. is_some (row_value k (ipv6_rows i))) ≡ false
      go auto p = refl
      go off p = refl
      go (static a n None) p = absurd (true≢false (sym p))
      go (static a n (Some g)) p = refl

  pub ipv6_agrees : flag_given (word "Enabled") (entries_in (word "IPv6") gs) ≡ and_then (row_value (word "Enabled") (ipv6_rows i)) (flag Iwd) →
      (ipv6_disabled gs && has (word "IPv6") (word "Address") gs) ≡ false
  unfolding flag
  ipv6_agrees e = rw (e, f (word "Address")) (go i)
    where
      go : (i : Addressing) →
          (is_no (and_then (row_value (word "Enabled") (ipv6_rows i)) (flag Iwd)) && is_some (row_value (word "Address") (ipv6_rows i))) ≡ false
      go auto = refl
      go off = refl
      go (static a n None) = refl
      go (static a n (Some g)) = refl

-- ".psk with neither key", ".open with either key", and those
pub rules_obey : (gs : List Section) (c : Secret) → numbers_lack gs ≡ false →
    unpaired_by (λ k. has (word "IPv6") k gs) ≡ false → (ipv6_disabled gs && has (word "IPv6") (word "Address") gs) ≡ false →
    ((k : List ℕ) → has (word "Security") k gs ≡ is_some (row_value k (secret_rows c))) →
    file_fault (suffix_for c) gs ≡ None
unfolding file_fault
rules_obey gs no_secret p q r f = rw (p, q, r, f (word "Passphrase"), f (word "PreSharedKey"))
rules_obey gs (passphrase k) p q r f = rw (f (word "Passphrase"), p, q, r)
rules_obey gs (key k) p q r f = rw (f (word "Passphrase"), f (word "PreSharedKey"), p, q, r)
