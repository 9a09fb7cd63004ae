-- What `mac`, `pre_shared_key_of` and `ssid` read is what their hex digits write.
use Rattle.std.specs.Prelude.{ℕ, ◌+◌, ◌*◌, ◌≡◌, refl, List, [], ◌∷◌, eqb, length, Option, Some}
use Rattle.std.proofs.Common.{arith, ap, ◌∙◌, subst, eqb-true}
use Rattle.std.proofs.lemmas.Option.{same_Some, none-some}
use Rattle.text.specs.Options.{and_then, prepend}
use Rattle.text.specs.OptionLaws.{only_some, then_some, is_sized, sized_then, prepend_some}
use Rattle.hex_digits.specs.Hex.{pair_byte, unhex}
use Rattle.hex_digits.specs.HexRules.{HexPair}
use Rattle.hex_digits.specs.HexRuleLaws.{pair_is, is_pair, unhex_writes, writes_unhex}
use Rattle.hex_values.specs.HexValues.{colon_pairs, pairs, mac, pre_shared_key_of, ssid}
use Rattle.hex_values.specs.HexValueRules.{ColonPairs, last, next, MacIs, PreSharedKeyIs, SsidIs}

-- ---- pairs with colons

colon_is : (a b byte : ℕ) (s : List ℕ) {t : List ℕ} → HexPair a b byte → colon_pairs s ≡ Some t →
    ColonPairs (a ∷ b ∷ s) (byte ∷ t)
unfolding colon_pairs
colon_is a b byte [] {t} h e =
    subst (λ (l : List ℕ). ColonPairs (a ∷ b ∷ []) (byte ∷ l)) (same_Some [] t e) (last h)
colon_is a b byte (c ∷ []) {t} h e = absurd (none-some t e)
colon_is a b byte (c ∷ x ∷ []) {t} h e = absurd (none-some t e)
colon_is a b byte (c ∷ x ∷ y ∷ s) {t} h e =
    let o = only_some (eqb c 58) (and_then (pair_byte x y) (λ z. prepend z (colon_pairs s))) e in
    let z = then_some (pair_byte x y) (λ z. prepend z (colon_pairs s)) o.1 in
    let u = prepend_some z.0 (colon_pairs s) z.2 in
    let k = colon_is x y z.0 s (pair_is x y z.1) u.1 in
    rw (eqb-true c 58 o.0, ← u.2) (next h k)

pairs_are : (v : List ℕ) {t : List ℕ} → pairs v ≡ Some t → ColonPairs v t
pairs_are [] {t} e = absurd (none-some t e)
pairs_are (a ∷ []) {t} e = absurd (none-some t e)
pairs_are (a ∷ b ∷ s) {t} e =
    let z = then_some (pair_byte a b) (λ z. prepend z (colon_pairs s)) e in
    let u = prepend_some z.0 (colon_pairs s) z.2 in
    subst (ColonPairs (a ∷ b ∷ s)) u.2 (colon_is a b z.0 s (pair_is a b z.1) u.1)

are_colon : {s t : List ℕ} → ColonPairs s t → colon_pairs (58 ∷ s) ≡ Some t
unfolding colon_pairs
are_colon (last {a} {b} h) = ap (λ (o : Option ℕ). and_then o (λ x. prepend x (colon_pairs []))) (is_pair a b h)
are_colon (next {a} {b} {byte} {s} h k) =
    ap (λ (o : Option ℕ). and_then o (λ x. prepend x (colon_pairs (58 ∷ s)))) (is_pair a b h) ∙ ap (prepend byte) (are_colon k)

are_pairs : {v t : List ℕ} → ColonPairs v t → pairs v ≡ Some t
unfolding colon_pairs
are_pairs (last h) = are_colon (last h)
are_pairs (next h k) = are_colon (next h k)

pairs_length : {s t : List ℕ} → ColonPairs s t → length s + 1 ≡ 3 * length t
pairs_length (last h) = refl
pairs_length (next h k) = let e = pairs_length k in omega arith

-- ---- the three kinds

pub mac_is : (v : List ℕ) {t : List ℕ} → mac v ≡ Some t → MacIs v t
unfolding mac
mac_is v {t} e =
    let s = sized_then 17 17 pairs v e in
    let k = pairs_are v s.1 in
    let z = s.0 in
    let n = pairs_length k in
    record { size = z; six = record { least = omega arith; most = omega arith }; pairs = k }

pub is_mac : (v : List ℕ) {t : List ℕ} → MacIs v t → mac v ≡ Some t
unfolding mac
is_mac v h = rw (is_sized 17 17 (Some v) h.size refl) (are_pairs h.pairs)

pub pre_shared_key_is : (v : List ℕ) {t : List ℕ} → pre_shared_key_of v ≡ Some t → PreSharedKeyIs v t
unfolding pre_shared_key_of
pre_shared_key_is v e = let h = sized_then 64 64 unhex v e in record { size = h.0; digits = unhex_writes v h.1 }

pub is_pre_shared_key : (v : List ℕ) {t : List ℕ} → PreSharedKeyIs v t → pre_shared_key_of v ≡ Some t
unfolding pre_shared_key_of
is_pre_shared_key v h = rw (is_sized 64 64 (Some v) h.size refl) (writes_unhex h.digits)

pub ssid_is : (v : List ℕ) {t : List ℕ} → ssid v ≡ Some t → SsidIs v t
unfolding ssid
ssid_is v e = let h = sized_then 2 64 unhex v e in record { size = h.0; digits = unhex_writes v h.1 }

pub is_ssid : (v : List ℕ) {t : List ℕ} → SsidIs v t → ssid v ≡ Some t
unfolding ssid
is_ssid v h = rw (is_sized 2 64 (Some v) h.size refl) (writes_unhex h.digits)
