-- What `ipv4` reads is what the text of ConnMan's IPv4 says.
use Rattle.std.specs.Prelude.{ℕ, ◌≡◌, refl, List, Option, None, Some}
use Rattle.std.proofs.Common.{sym, ◌∙◌, inl, inr}
use Rattle.std.proofs.lemmas.Option.{none-some}
use Rattle.text.specs.Bytes.{is_digit}
use Rattle.text.specs.Words.{word}
use Rattle.text.specs.Options.{or_else}
use Rattle.text.specs.Laws.{all_other}
use Rattle.addresses.specs.Addresses.{address, netmask, prefix_length_of}
use Rattle.addresses.specs.AddressRules.{AddressIs, LengthIs}
use Rattle.addresses.specs.AddressRuleLaws.{address_is, is_address_lem, address_undotted, prefix_is, is_prefix}
use Rattle.addresses.specs.MaskRuleLaws.{netmask_is, is_netmask}
use Rattle.addressing.specs.Addressing.{Addressing}
use Rattle.addressing.specs.SettingRuleLaws.{addressing_is, is_addressing}
use Rattle.connman_ipv4.specs.ConnmanIpv4.{mask_or_length, ipv4}
use Rattle.connman_ipv4.specs.Ipv4Rules.{MaskOrLength, Ipv4Is}

-- ---- "mask or length"

length_is : (m : List ℕ) {n : ℕ} → mask_or_length m ≡ Some n → MaskOrLength m n
length_is m {n} e = go (prefix_length_of 32 m) refl e
  where
    go : (o : Option ℕ) → prefix_length_of 32 m ≡ o → or_else o (netmask m) ≡ Some n → MaskOrLength m n
    go None q e = inl (netmask_is m e)
    go (Some k) q e = inr (prefix_is 32 m (q ∙ e))

-- digits alone are no address
digits_undotted : (m : List ℕ) {k : ℕ} {a : List ℕ} → LengthIs 32 m k → AddressIs m a → ⊥
digits_undotted m {a = a} h g =
    none-some a (sym (address_undotted m (all_other is_digit 46 refl m h.number.digits)) ∙ is_address_lem m g)

is_length : (m : List ℕ) {n : ℕ} → MaskOrLength m n → mask_or_length m ≡ Some n
is_length m (inr h) = rw (is_prefix 32 m h)
is_length m {n} (inl h) = go (prefix_length_of 32 m) refl
  where
    go : (o : Option ℕ) → prefix_length_of 32 m ≡ o → or_else o (netmask m) ≡ Some n
    go None q = is_netmask m h
    go (Some k) q = absurd (digits_undotted m (prefix_is 32 m q) h.address)

-- ---- the whole

pub ipv4_is : (v : List ℕ) {i : Addressing} → ipv4 v ≡ Some i → Ipv4Is v i
unfolding ipv4
ipv4_is v e = addressing_is (word "dhcp") address mask_or_length AddressIs MaskOrLength (λ a x. address_is a) (λ m n. length_is m) v e

pub is_ipv4 : (v : List ℕ) {i : Addressing} → Ipv4Is v i → ipv4 v ≡ Some i
unfolding ipv4
is_ipv4 v h = is_addressing (word "dhcp") address mask_or_length AddressIs MaskOrLength (λ a x. is_address_lem a) (λ m n. is_length m) refl refl v h
