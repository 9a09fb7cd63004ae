-- What ConnMan's IPv4 obeys once it is read: its addresses have four bytes, and a length is 1 to 32.
use Rattle.std.specs.Prelude.{ℕ, ◌≤◌, ◌≡◌, List, Some}
use Rattle.std.proofs.Common.{inl, inr}
use Rattle.text.specs.Words.{word}
use Rattle.addresses.specs.AddressRules.{AddressIs}
use Rattle.addresses.specs.Laws.{address_bytes_lem}
use Rattle.addresses.specs.AddressRuleLaws.{is_address_lem}
use Rattle.addresses.specs.MaskRuleLaws.{netmask_good, is_netmask}
use Rattle.addressing.specs.Addressing.{Addressing, Good}
use Rattle.addressing.specs.SettingRuleLaws.{setting_good}
use Rattle.connman_ipv4.specs.ConnmanIpv4.{ipv4}
use Rattle.connman_ipv4.specs.Ipv4Rules.{MaskOrLength}
use Rattle.connman_ipv4.specs.Ipv4RuleLaws.{ipv4_is}

length_good : (m : List ℕ) {n : ℕ} → MaskOrLength m n → (1 ≤ n) × (n ≤ 32)
length_good m (inl h) = netmask_good m (is_netmask m h)
length_good m (inr h) = (h.least, h.number.most)

pub ipv4_good : (v : List ℕ) {i : Addressing} → ipv4 v ≡ Some i → Good 4 32 i
ipv4_good v e =
    setting_good 4 32 (word "dhcp") AddressIs MaskOrLength (λ a x h. address_bytes_lem a (is_address_lem a h)) (λ m n. length_good m) (ipv4_is v e)
