-- A good value of every kind but free text is printable, so its text is whole.
use Rattle.std.specs.Prelude.{ℕ, ◌≡◌, refl, Bool, true, false, cond, List, Option, None, Some}
use Rattle.std.proofs.Common.{arith, true≢false}
use Rattle.text.specs.Printable.{Printable}
use Rattle.text.specs.declared.Dialect.{Dialect}
use Rattle.utf8.specs.Utf8.{value_text}
use Rattle.utf8.specs.Laws.{text_printable}
use Rattle.addresses.specs.Printable.{address_printable, mask_printable, addresses_printable}
use Rattle.named_words.specs.Printable.{flag_printable, word_printable}
use Rattle.ipv6.specs.Printable.{ipv6_printable}
use Rattle.connman_ipv4.specs.Printable.{ipv4_printable}
use Rattle.ipv6_values.specs.Printable.{connman_ipv6_printable, with_length_printable}
use Rattle.hex_values.specs.Printable.{mac_printable, pre_shared_key_printable, ssid_printable}
use Rattle.kinds.specs.Typed.{Typed, typed, string_broken, good, broken_text, by_kind, kind_judged}
use Rattle.kinds.specs.ValueRules as R
use Rattle.kinds.specs.ValueRules.{ValueIs}
use Rattle.kinds.proofs.ValueRuleLaws.{typed_value}
use Rattle.kinds.specs.Judging.{is_free_text}
use Rattle.kinds.specs.declared.Kind.{Kind}

value_printable : {d : Dialect} {k : Kind} {v : List ℕ} {t : Typed} → ValueIs d k v t → is_free_text k ≡ false →
    Printable v
value_printable {d} (R.flag {v} {b} h) n = flag_printable d v b h
value_printable (R.named {l} {v} {w} h) n = word_printable l v w h
value_printable (R.address h) n = address_printable h
value_printable (R.netmask h) n = mask_printable h
value_printable (R.ipv4 h) n = ipv4_printable h
value_printable (R.ipv6 h) n = connman_ipv6_printable h
value_printable (R.ipv6_address_of h) n = ipv6_printable h
value_printable (R.ipv6_with_length h) n = with_length_printable h
value_printable (R.addresses h) n = addresses_printable h
value_printable (R.entries h) n = absurd (true≢false n)
value_printable (R.mac h) n = mac_printable h
value_printable (R.pre_shared_key_of h) n = pre_shared_key_printable h
value_printable (R.ssid h) n = ssid_printable h
value_printable (R.passphrase h) n = absurd (true≢false n)
value_printable (R.text h) n = absurd (true≢false n)

pub good_text : (d : Dialect) (k : Kind) (v : List ℕ) {t : Typed} → is_free_text k ≡ false → kind_judged d k v ≡ good t →
    value_text v ≡ true
unfolding kind_judged
good_text d k v {t} n e = go (string_broken k v) (typed d k v) refl e
  where
    go : (b : Bool) (o : Option Typed) → typed d k v ≡ o → cond b broken_text (by_kind o) ≡ good t → value_text v ≡ true
    go true o q e = let z : ◌≡◌ {A = ℕ} 0 1 = cc in absurd (omega arith)
    go false None q e = let z : ◌≡◌ {A = ℕ} 0 1 = cc in absurd (omega arith)
    go false (Some u) q e = text_printable true v (value_printable (typed_value d k v q) n)
