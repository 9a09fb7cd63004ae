-- Each kind by what its reader answers.
use Rattle.std.specs.Prelude.{◌≡◌, is_some, ok_or, option_map}
use Rattle.std.proofs.Common.{ap, refl, ◌∙◌}
use Rattle.text.specs.Options.{each}
use Rattle.addresses.specs.Addresses as A
use Rattle.named_words.specs.NamedWords as NamedWords
use Rattle.ipv6.specs.Ipv6 as Ipv6
use Rattle.connman_ipv4.specs.ConnmanIpv4 as ConnmanIpv4
use Rattle.ipv6_values.specs.Ipv6Values as Ipv6Values
use Rattle.hex_values.specs.HexValues as HexValues
use Rattle.entry_lists.specs.EntryLists as EntryLists
use Rattle.kinds.specs.Typed as T
use Rattle.kinds.specs.Typed.{typed, kind_judged}
use Rattle.kinds.specs.declared.Value.TheVariants as W
use Rattle.kinds.specs.declared.Broken.TheVariants as B
use Rattle.kinds.proofs.Judges.{counted, mapped_some, given_kind, kept_kind, string_kind}
use borrow.Author.Rules.{rules}
use Rattle.kinds.proofs.judging.judge_kind.Goals as goal

pub returns-in-Flag : goal.returns-in-Flag
unfolding typed kind_judged
returns-in-Flag c =
    let e : c.ok_or.result ≡ ok_or (option_map W.Flag c.read_flag.result) B.Kind = search rules in
    given_kind _ _ _ c.in-Flag.is T.flag (NamedWords.flag c.args.d c.args.v.now) refl W.Flag (λ a. refl) c.read_flag.ensures e

pub returns-in-Named : goal.returns-in-Named
unfolding typed kind_judged
returns-in-Named c =
    let e : c.ok_or-in-Named.result ≡ ok_or (option_map W.Word c.read_word.result) B.Kind = search rules in
    given_kind _ _ _ c.in-Named.is T.word (NamedWords.word_of c.in-Named.w c.args.v.now) refl W.Word (λ a. refl) c.read_word.ensures e

pub returns-in-Netmask : goal.returns-in-Netmask
unfolding typed kind_judged
returns-in-Netmask c =
    let e : c.ok_or-in-Netmask.result ≡ ok_or (option_map W.Mask c.read_netmask.result) B.Kind = search rules in
    given_kind _ _ _ c.in-Netmask.is T.mask_length (A.netmask c.args.v.now) refl W.Mask (λ a. refl) c.read_netmask.ensures e

pub returns-in-Address : goal.returns-in-Address
unfolding typed kind_judged
returns-in-Address c = kept_kind _ _ _ c.in-Address.is T.address (A.address c.args.v.now) refl (λ a. refl) (c.is_some.ensures ∙ ap is_some c.read_address.ensures) c.kept.ensures

pub returns-in-Ipv4 : goal.returns-in-Ipv4
unfolding typed kind_judged
returns-in-Ipv4 c = kept_kind _ _ _ c.in-Ipv4.is T.addressing (ConnmanIpv4.ipv4 c.args.v.now) refl (λ a. refl) (c.is_some-in-Ipv4.ensures ∙ ap is_some c.read_ipv4.ensures ∙ mapped_some _ _) c.kept-in-Ipv4.ensures

pub returns-in-Ipv6 : goal.returns-in-Ipv6
unfolding typed kind_judged
returns-in-Ipv6 c = kept_kind _ _ _ c.in-Ipv6.is T.addressing (Ipv6Values.connman_ipv6 c.args.v.now) refl (λ a. refl) (c.is_some-in-Ipv6.ensures ∙ ap is_some c.read_ipv6.ensures ∙ mapped_some _ _) c.kept-in-Ipv6.ensures

pub returns-in-Ipv6Address : goal.returns-in-Ipv6Address
unfolding typed kind_judged
returns-in-Ipv6Address c = kept_kind _ _ _ c.in-Ipv6Address.is T.address (Ipv6.ipv6 c.args.v.now) refl (λ a. refl) (c.is_some-in-Ipv6Address.ensures ∙ ap is_some c.read_address-in-Ipv6Address.ensures) c.kept-in-Ipv6Address.ensures

pub returns-in-Ipv6WithLength : goal.returns-in-Ipv6WithLength
unfolding typed kind_judged
returns-in-Ipv6WithLength c = kept_kind _ _ _ c.in-Ipv6WithLength.is T.with_length (Ipv6Values.with_length c.args.v.now) refl (λ a. refl) (c.is_some-in-Ipv6WithLength.ensures ∙ ap is_some c.read_with_length.ensures ∙ mapped_some _ _) c.kept-in-Ipv6WithLength.ensures

pub returns-in-Addresses : goal.returns-in-Addresses
unfolding typed kind_judged A.addresses
returns-in-Addresses c = kept_kind _ _ _ c.in-Addresses.is T.addresses (A.addresses c.in-Addresses.sep c.args.v.now) refl (λ a. refl) (counted 4 (each A.address (A.fields c.in-Addresses.sep c.args.v.now)) c.count_addresses.ensures) c.kept-in-Addresses.ensures

pub returns-in-Entries : goal.returns-in-Entries
unfolding typed kind_judged
returns-in-Entries c = kept_kind _ _ _ c.in-Entries.is T.entries (EntryLists.entries c.args.v.now) refl (λ a. refl) (c.is_some-in-Entries.ensures ∙ ap is_some c.read_entries.ensures ∙ mapped_some _ _) c.kept-in-Entries.ensures

pub returns-in-Mac : goal.returns-in-Mac
unfolding typed kind_judged
returns-in-Mac c = kept_kind _ _ _ c.in-Mac.is T.bytes (HexValues.mac c.args.v.now) refl (λ a. refl) (c.is_some-in-Mac.ensures ∙ ap is_some c.read_mac.ensures) c.kept-in-Mac.ensures

pub returns-in-PreSharedKey : goal.returns-in-PreSharedKey
unfolding typed kind_judged
returns-in-PreSharedKey c = kept_kind _ _ _ c.in-PreSharedKey.is T.bytes (HexValues.pre_shared_key_of c.args.v.now) refl (λ a. refl) (c.is_pre_shared_key.ensures) c.kept-in-PreSharedKey.ensures

pub returns-in-Ssid : goal.returns-in-Ssid
unfolding typed kind_judged
returns-in-Ssid c = kept_kind _ _ _ c.in-Ssid.is T.bytes (HexValues.ssid c.args.v.now) refl (λ a. refl) (c.is_ssid.ensures) c.kept-in-Ssid.ensures

pub returns-in-Passphrase : goal.returns-in-Passphrase
unfolding typed kind_judged
returns-in-Passphrase c = string_kind _ _ _ c.in-Passphrase.is 8 63 refl c.string_len.ensures c.string_judgement.ensures

pub returns-in-Text : goal.returns-in-Text
unfolding typed kind_judged
returns-in-Text c = string_kind _ _ _ c.in-Text.is c.in-Text.low c.in-Text.high refl c.string_len-in-Text.ensures c.string_judgement-in-Text.ensures
