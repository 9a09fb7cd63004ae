-- What `connman_ipv6` and `with_length` read is what the texts say.
use Rattle.std.specs.Prelude.{ℕ, ◌≡◌, refl, List, [], ◌∷◌, Some}
use Rattle.std.proofs.Common.{ap, ◌∙◌, subst}
use Rattle.std.proofs.lemmas.Option.{none-some}
use Rattle.text.specs.Options.{mapped}
use Rattle.text.specs.OptionLaws.{then_some, mapped_some}
use Rattle.text.specs.Parts.{pieces}
use Rattle.text.specs.Pieces.{Pieces}
use Rattle.text.specs.PieceLaws.{pieces_are, pieces_only}
use Rattle.text.specs.Words.{word}
use Rattle.addresses.specs.Addresses.{prefix_length_of}
use Rattle.addresses.specs.AddressRules.{LengthIs}
use Rattle.addresses.specs.AddressRuleLaws.{prefix_is, is_prefix}
use Rattle.addressing.specs.Addressing.{Addressing}
use Rattle.addressing.specs.SettingRuleLaws.{addressing_is, is_addressing}
use Rattle.ipv6.specs.Ipv6.{ipv6}
use Rattle.ipv6.specs.Ipv6Rules.{Ipv6Is}
use Rattle.ipv6.specs.Ipv6RuleLaws.{ipv6_is, is_ipv6_lem}
use Rattle.ipv6_values.specs.Ipv6Values.{connman_ipv6, WithLength, address_length, with_length}
use Rattle.ipv6_values.specs.Ipv6ValueRules.{ConnmanIpv6Is, WithLengthIs, without_length, with_length_lem}

-- ---- ConnMan's IPv6

pub connman_ipv6_is : (v : List ℕ) {i : Addressing} → connman_ipv6 v ≡ Some i → ConnmanIpv6Is v i
unfolding connman_ipv6
connman_ipv6_is v e =
    addressing_is (word "auto") ipv6 (prefix_length_of 128) Ipv6Is (LengthIs 128) (λ a x. ipv6_is a) (λ m n. prefix_is 128 m) v e

pub is_connman_ipv6 : (v : List ℕ) {i : Addressing} → ConnmanIpv6Is v i → connman_ipv6 v ≡ Some i
unfolding connman_ipv6
is_connman_ipv6 v h =
    is_addressing (word "auto") ipv6 (prefix_length_of 128) Ipv6Is (LengthIs 128) (λ a x. is_ipv6_lem a) (λ m n. is_prefix 128 m) refl refl v h

-- ---- iwd's Address

pieces_with_length : (v : List ℕ) (ps : List (List ℕ)) → Pieces 47 v ps → {w : WithLength} → address_length ps ≡ Some w →
    WithLengthIs v w
pieces_with_length v [] p {w} e = absurd (none-some w e)
pieces_with_length v (a ∷ []) p {w} e =
    let x = mapped_some (λ (x : List ℕ). record { address = x; length = 128 }) (ipv6 a) e in
    subst (WithLengthIs v) x.2 (without_length p (ipv6_is a x.1))
pieces_with_length v (a ∷ m ∷ []) p {w} e =
    let x = then_some (ipv6 a) (λ (x : List ℕ). mapped (λ n. record { address = x; length = n }) (prefix_length_of 128 m)) e in
    let n = mapped_some (λ (n : ℕ). record { address = x.0; length = n }) (prefix_length_of 128 m) x.2 in
    subst (WithLengthIs v) n.2 (with_length_lem p (ipv6_is a x.1) (prefix_is 128 m n.1))
pieces_with_length v (a ∷ m ∷ b ∷ t) p {w} e = absurd (none-some w e)

pub with_length_is : (v : List ℕ) {w : WithLength} → with_length v ≡ Some w → WithLengthIs v w
unfolding with_length
with_length_is v e = pieces_with_length v (pieces 47 v) (pieces_are 47 v) e

pub is_with_length : (v : List ℕ) {w : WithLength} → WithLengthIs v w → with_length v ≡ Some w
unfolding with_length
is_with_length v (without_length {a} {x} p h) = ap address_length (pieces_only 47 p) ∙ rw (is_ipv6_lem a h)
is_with_length v (with_length_lem {a} {m} {x} {n} p h k) =
    ap address_length (pieces_only 47 p) ∙ rw (is_ipv6_lem a h, is_prefix 128 m k)
