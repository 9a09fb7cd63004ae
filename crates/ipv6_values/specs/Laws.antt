-- What ConnMan's IPv6 and iwd's Address obey once they are read: an address has sixteen bytes, and a length is 1 to 128.
use Rattle.std.specs.Prelude.{ℕ, ◌≤◌, ◌≡◌, true, List, Some}
use Rattle.std.proofs.Common.{arith}
use Rattle.text.specs.Words.{word}
use Rattle.addresses.specs.AddressRules.{LengthIs}
use Rattle.addressing.specs.Addressing.{Addressing, Good}
use Rattle.addressing.specs.SettingRuleLaws.{setting_good}
use Rattle.ipv6.specs.Ipv6.{is_ipv6}
use Rattle.ipv6.specs.Ipv6Rules.{Ipv6Is}
use Rattle.ipv6.specs.Ipv6RuleLaws.{is_ipv6_lem}
use Rattle.ipv6.specs.Laws.{ipv6_bytes}
use Rattle.ipv6_values.specs.Ipv6Values.{connman_ipv6, WithLength, with_length}
use Rattle.ipv6_values.specs.Ipv6ValueRules.{WithLengthIs, without_length, with_length_lem}
use Rattle.ipv6_values.specs.Ipv6ValueRuleLaws.{connman_ipv6_is, with_length_is}

address_good : (a x : List ℕ) → Ipv6Is a x → is_ipv6 x ≡ true
address_good a x h = ipv6_bytes a x (is_ipv6_lem a h)

length_good : (m : List ℕ) {n : ℕ} → LengthIs 128 m n → (1 ≤ n) × (n ≤ 128)
length_good m h = (h.least, h.number.most)

pub connman_ipv6_good : (v : List ℕ) {i : Addressing} → connman_ipv6 v ≡ Some i → Good 16 128 i
connman_ipv6_good v e =
    setting_good 16 128 (word "auto") Ipv6Is (LengthIs 128) address_good (λ m n. length_good m) (connman_ipv6_is v e)

pub record GoodWithLength (w : WithLength) : Type 0 where
  pub address : is_ipv6 w.address ≡ true
  pub low : 1 ≤ w.length
  pub high : w.length ≤ 128

pub with_length_good : (v : List ℕ) {w : WithLength} → with_length v ≡ Some w → GoodWithLength w
with_length_good v {w} e = go w (with_length_is v e)
  where
    go : (w : WithLength) → WithLengthIs v w → GoodWithLength w
    go w (without_length {a} {x} p h) = record { address = address_good a x h; low = omega arith; high = omega arith }
    go w (with_length_lem {a} {m} {x} p h k) =
        record { address = address_good a x h; low = (length_good m k).0; high = (length_good m k).1 }
