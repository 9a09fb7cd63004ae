-- A value is read by its kind exactly as the rules say, and its text is judged broken exactly where the rules say so.
use Rattle.std.specs.Prelude.{ℕ, ◌≤◌, ◌≡◌, refl, Bool, true, false, not, List, [], ◌∷◌, length, Option, Some}
use Rattle.std.proofs.Common.{ap, subst, true≢false}
use Rattle.text.specs.Bytes.{other}
use Rattle.text.specs.Parts.{all}
use Rattle.text.specs.Options.{is_some, mapped}
use Rattle.text.specs.OptionLaws.{some_is, sized_is, is_sized, mapped_some}
use Rattle.text.specs.Laws.{and_true, all_cons, all_weaken}
use Rattle.text.specs.declared.Dialect.{Dialect}
use Rattle.utf8.specs.Utf8.{utf8, text, text_byte, value_text}
use Rattle.utf8.specs.WellFormedLaws.{utf8_formed, formed_utf8}
use Rattle.escapes.specs.Escapes.{unescape}
use Rattle.escapes.specs.StringRules.{Unescaped}
use Rattle.escapes.specs.StringRuleLaws.{unescape_is, is_unescape}
use Rattle.addresses.specs.Addresses.{address, netmask, addresses}
use Rattle.addresses.specs.AddressRuleLaws.{address_is, is_address_lem, addresses_is, is_addresses}
use Rattle.addresses.specs.MaskRuleLaws.{netmask_is, is_netmask}
use Rattle.named_words.specs.NamedWords.{flag, word_of}
use Rattle.named_words.specs.WordRuleLaws.{flag_means, means_flag, word_means, means_word}
use Rattle.ipv6.specs.Ipv6.{ipv6}
use Rattle.ipv6.specs.Ipv6RuleLaws.{ipv6_is, is_ipv6_lem}
use Rattle.connman_ipv4.specs.ConnmanIpv4.{ipv4}
use Rattle.connman_ipv4.specs.Ipv4RuleLaws.{ipv4_is, is_ipv4}
use Rattle.ipv6_values.specs.Ipv6Values.{connman_ipv6, with_length}
use Rattle.ipv6_values.specs.Ipv6ValueRuleLaws.{connman_ipv6_is, is_connman_ipv6, with_length_is, is_with_length}
use Rattle.hex_values.specs.HexValues.{mac, pre_shared_key_of, ssid}
use Rattle.hex_values.specs.HexValueRuleLaws.{mac_is, is_mac, pre_shared_key_is, is_pre_shared_key, ssid_is, is_ssid}
use Rattle.entry_lists.specs.EntryLists.{entries}
use Rattle.entry_lists.specs.EntryRuleLaws.{entries_are, are_entries}
use Rattle.kinds.specs.Kinds.{string, passphrase}
use Rattle.kinds.specs.Typed as T
use Rattle.kinds.specs.Typed.{Typed, typed, escapes_broken, string_broken}
use Rattle.kinds.specs.ValueRules as R
use Rattle.kinds.specs.ValueRules.{TextIs, ValueIs, IsString, WholeText}
use Rattle.kinds.specs.declared.Kind.{Kind}
use Rattle.kinds.specs.declared.Kind.TheVariants as K

-- ---- strings

text_is : (low high : ℕ) (v : List ℕ) {t : List ℕ} → string low high v ≡ Some t →
    TextIs low high v t
unfolding string
text_is low high v e = let s = sized_is low high (unescape v) e in record { is = unescape_is v s.1; size = s.0 }

is_text_lem : (low high : ℕ) (v : List ℕ) {t : List ℕ} → TextIs low high v t →
    string low high v ≡ Some t
unfolding string
is_text_lem low high v h = is_sized low high (unescape v) h.size (is_unescape h.is)

pub string_size : (low high : ℕ) (v : List ℕ) {t : List ℕ} → string low high v ≡ Some t →
    (low ≤ length t) × (length t ≤ high)
unfolding string
string_size low high v {t} e =
    let h = (sized_is low high (unescape v) e).0 in
    (h.least, h.most)

-- ---- every kind

module _ {A : Type 0} (d : Dialect) (k : Kind) (v : List ℕ) (f : A → Typed) (o : Option A) where
  -- what is read of a value is its typed value
  given : ((a : A) → o ≡ Some a → ValueIs d k v (f a)) → {t : Typed} → mapped f o ≡ Some t → ValueIs d k v t
  given g e = let m = mapped_some f o e in subst (ValueIs d k v) m.2 (g m.0 m.1)

pub typed_value : (d : Dialect) (k : Kind) (v : List ℕ) {t : Typed} → typed d k v ≡ Some t → ValueIs d k v t
unfolding typed
typed_value d K.Flag v e = given d K.Flag v T.flag (flag d v) (λ b q. R.flag (flag_means d v q)) e
typed_value d (K.Named l) v e = given d (K.Named l) v T.word (word_of l v) (λ w q. R.named (word_means l v q)) e
typed_value d K.Address v e = given d K.Address v T.address (address v) (λ a q. R.address (address_is v q)) e
typed_value d K.Netmask v e = given d K.Netmask v T.mask_length (netmask v) (λ n q. R.netmask (netmask_is v q)) e
typed_value d K.Ipv4 v e = given d K.Ipv4 v T.addressing (ipv4 v) (λ i q. R.ipv4 (ipv4_is v q)) e
typed_value d K.Ipv6 v e = given d K.Ipv6 v T.addressing (connman_ipv6 v) (λ i q. R.ipv6 (connman_ipv6_is v q)) e
typed_value d K.Ipv6Address v e = given d K.Ipv6Address v T.address (ipv6 v) (λ a q. R.ipv6_address_of (ipv6_is v q)) e
typed_value d K.Ipv6WithLength v e =
    given d K.Ipv6WithLength v T.with_length (with_length v) (λ w q. R.ipv6_with_length (with_length_is v q)) e
typed_value d (K.Addresses sep) v e =
    given d (K.Addresses sep) v T.addresses (addresses sep v) (λ l q. R.addresses (addresses_is sep v q)) e
typed_value d K.Entries v e = given d K.Entries v T.entries (entries v) (λ l q. R.entries (entries_are v q)) e
typed_value d K.Mac v e = given d K.Mac v T.bytes (mac v) (λ b q. R.mac (mac_is v q)) e
typed_value d K.PreSharedKey v e = given d K.PreSharedKey v T.bytes (pre_shared_key_of v) (λ b q. R.pre_shared_key_of (pre_shared_key_is v q)) e
typed_value d K.Ssid v e = given d K.Ssid v T.bytes (ssid v) (λ b q. R.ssid (ssid_is v q)) e
typed_value d K.Passphrase v e =
    given d K.Passphrase v T.bytes (passphrase v) (λ b q. R.passphrase (text_is 8 63 v q)) e
typed_value d (K.Text low high) v e =
    given d (K.Text low high) v T.bytes (string low high v) (λ b q. R.text (text_is low high v q)) e

pub value_typed : (d : Dialect) (k : Kind) (v : List ℕ) {t : Typed} → ValueIs d k v t → typed d k v ≡ Some t
unfolding typed
value_typed d k v (R.flag h) = ap (mapped T.flag) (means_flag d v h)
value_typed d k v (R.named {l} h) = ap (mapped T.word) (means_word l v h)
value_typed d k v (R.address h) = ap (mapped T.address) (is_address_lem v h)
value_typed d k v (R.netmask h) = ap (mapped T.mask_length) (is_netmask v h)
value_typed d k v (R.ipv4 h) = ap (mapped T.addressing) (is_ipv4 v h)
value_typed d k v (R.ipv6 h) = ap (mapped T.addressing) (is_connman_ipv6 v h)
value_typed d k v (R.ipv6_address_of h) = ap (mapped T.address) (is_ipv6_lem v h)
value_typed d k v (R.ipv6_with_length h) = ap (mapped T.with_length) (is_with_length v h)
value_typed d k v (R.addresses {sep} h) = ap (mapped T.addresses) (is_addresses sep v h)
value_typed d k v (R.entries h) = ap (mapped T.entries) (are_entries v h)
value_typed d k v (R.mac h) = ap (mapped T.bytes) (is_mac v h)
value_typed d k v (R.pre_shared_key_of h) = ap (mapped T.bytes) (is_pre_shared_key v h)
value_typed d k v (R.ssid h) = ap (mapped T.bytes) (is_ssid v h)
value_typed d k v (R.passphrase h) = ap (mapped T.bytes) (is_text_lem 8 63 v h)
value_typed d k v (R.text {low} {high} h) = ap (mapped T.bytes) (is_text_lem low high v h)

-- ---- whole text

escapes_whole : (v : List ℕ) → escapes_broken v ≡ false → (bytes : List ℕ) × Unescaped v bytes
escapes_whole v h = let k = some_is (unescape v) (go (is_some (unescape v)) h) in (k.0, unescape_is v k.1)
  where
    go : (b : Bool) → not b ≡ false → b ≡ true
    go true h = refl
    go false h = absurd (true≢false h)

whole_escapes : (v : List ℕ) → ((bytes : List ℕ) × Unescaped v bytes) → escapes_broken v ≡ false
whole_escapes v h = ap (λ (o : Option (List ℕ)). not (is_some o)) (is_unescape h.1)

string_whole : (k : Kind) (v : List ℕ) → string_broken k v ≡ false → IsString k →
    (bytes : List ℕ) × Unescaped v bytes
string_whole K.Flag v e h = absurd h
string_whole (K.Named l) v e h = absurd h
string_whole K.Address v e h = absurd h
string_whole K.Netmask v e h = absurd h
string_whole K.Ipv4 v e h = absurd h
string_whole K.Ipv6 v e h = absurd h
string_whole K.Ipv6Address v e h = absurd h
string_whole K.Ipv6WithLength v e h = absurd h
string_whole (K.Addresses sep) v e h = absurd h
string_whole K.Entries v e h = absurd h
string_whole K.Mac v e h = absurd h
string_whole K.PreSharedKey v e h = absurd h
string_whole K.Ssid v e h = absurd h
string_whole K.Passphrase v e h = escapes_whole v e
string_whole (K.Text low high) v e h = escapes_whole v e

pub judged_whole : (k : Kind) (v : List ℕ) → value_text v ≡ true → string_broken k v ≡ false →
    WholeText k v
unfolding text
judged_whole k v h e =
    let p = and_true (all (text_byte true) v) (utf8 v) h in
    record {
      encoded = utf8_formed v p.1;
      no_zero = all_weaken (text_byte true) (other 0) (λ x i. (and_true (other 0 x) (other 13 x) i).0) v p.0;
      no_return = all_weaken (text_byte true) (other 13) (λ x i. (and_true (other 0 x) (other 13 x) i).1) v p.0;
      escapes = string_whole k v e;
    }

all_both : (v : List ℕ) → all (other 0) v ≡ true → all (other 13) v ≡ true → all (text_byte true) v ≡ true
all_both [] h k = refl
all_both (x ∷ v) h k =
    let i = all_cons (other 0) x v h in
    let j = all_cons (other 13) x v k in
    rw (i.0, j.0) (all_both v i.1 j.1)

pub whole_text : (k : Kind) (v : List ℕ) → WholeText k v → value_text v ≡ true
unfolding text
whole_text k v w = rw (all_both v w.no_zero w.no_return) (formed_utf8 w.encoded)

pub whole_unbroken : (k : Kind) (v : List ℕ) → WholeText k v → string_broken k v ≡ false
whole_unbroken K.Flag v w = refl
whole_unbroken (K.Named l) v w = refl
whole_unbroken K.Address v w = refl
whole_unbroken K.Netmask v w = refl
whole_unbroken K.Ipv4 v w = refl
whole_unbroken K.Ipv6 v w = refl
whole_unbroken K.Ipv6Address v w = refl
whole_unbroken K.Ipv6WithLength v w = refl
whole_unbroken (K.Addresses sep) v w = refl
whole_unbroken K.Entries v w = refl
whole_unbroken K.Mac v w = refl
whole_unbroken K.PreSharedKey v w = refl
whole_unbroken K.Ssid v w = refl
whole_unbroken K.Passphrase v w = whole_escapes v (w.escapes tt)
whole_unbroken (K.Text low high) v w = whole_escapes v (w.escapes tt)
