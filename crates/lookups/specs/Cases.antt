-- Worked lookups: what is asked, a name and a file; the number, the line and the stretch that are handed back.
use Rattle.std.specs.Prelude.{◌≡◌, refl, List, [], ◌∷◌, map, ℕ}
use Prim.Native.String.{String}
use Rattle.text.specs.Bytes.{is_key_byte, is_plain}
use Rattle.text.specs.Words.{word}
use Rattle.text.specs.Worked.{shop}
use Rattle.utf8.specs.Utf8.{follow, utf8_from, text}
use Rattle.escapes.specs.Escapes.{unescape_from}
use Rattle.hex_digits.specs.Hex.{nibble, unhex}
use Rattle.addresses.specs.Addresses.{decimal_value, number, address, prefix_length_of, length_up_to, mask_length, netmask, addresses}
use Rattle.named_words.specs.NamedWords.{flag, word_of}
use Rattle.connman_ipv4.specs.ConnmanIpv4.{ipv4}
use Rattle.ipv6_values.specs.Ipv6Values.{connman_ipv6}
use Rattle.hex_values.specs.HexValues.{colon_pairs, mac, pre_shared_key_of, ssid}
use Rattle.entry_lists.specs.EntryLists.{entries}
use Rattle.kinds.specs.Kinds.{string}
use Rattle.kinds.specs.Typed.{typed, kind_judged, judged}
use Rattle.lines.specs.Lines.{bracket_of, setting_of, line_of, value_start}
use Rattle.names.specs.Names.{name_of, network_of}
use Rattle.rules.specs.Numbers.{answer_number}
use Rattle.rules.specs.Tables.{is_service, group_of, keys_of}
use Rattle.rules.specs.Faults.{fault}
use Rattle.rules.specs.Sections.{with_line}
use Rattle.rules.specs.Groups.{service_fault, file_fault}
use Rattle.rules.specs.Reading.{line_fault, grown, sections_of, reading}
use Rattle.lookups.specs.Lookups.{Lookup, iwd_lookup, global_lookup, service_lookup, lookup_line, stretch}

abbrev Handed : Type 0
Handed = ℕ × ℕ × List ℕ

abbrev handed : Lookup → List ℕ → Handed
handed k file = (answer_number k.answer, lookup_line k.answer k.setting, stretch file k.setting)

-- what is asked of a name and a file, both, and what is handed back
abbrev Case : Type 0
Case = (List ℕ → List ℕ → Lookup) × String × String × Handed

abbrev cases : List Case
cases =
    (service_lookup 1 (word "Name"), "shop.config", shop, (0, 3, word "Desk 4"))
    ∷ (service_lookup 1 (word "Passphrase"), "shop.config", shop, (0, 4, word "low\\tide 88"))
    ∷ (service_lookup 1 (word "Domain"), "shop.config", shop, (0, 0, []))
    ∷ (service_lookup 0 (word "Name"), "shop.config", shop, (18, 0, []))
    ∷ (service_lookup 2 (word "Name"), "shop.config", shop, (18, 0, []))
    ∷ (service_lookup 2 (word "Name"), "shop.conf", shop, (2, 0, []))
    ∷ (global_lookup (word "Name"), "shop.config", shop, (0, 0, []))
    ∷ (global_lookup (word "Name"), "a.config", "[global]\nDescription=b \nName=a", (0, 3, word "a"))
    ∷ (global_lookup (word "Description"), "a.config", "[global]\nDescription=b \nName=a", (0, 2, word "b"))
    ∷ (service_lookup 2 (word "Name"), "a.config", "[service_a]\nType=wifi\nName=a\n[global]\nName=g\n[service_b]\nType=wifi\nName=b", (0, 8, word "b"))
    ∷ (service_lookup 1 (word "Domain"), "a.config", "[service_a]\nDomain=d\n", (14, 1, []))
    ∷ (global_lookup (word "Name"), "a.config", "[global]\nName=\\sa\\n\\s \t", (0, 2, word "\\sa\\n\\s"))
    ∷ (global_lookup (word "Name"), "a.config", "[global]\nName=a\\ ", (11, 2, []))
    ∷ (iwd_lookup (word "IPv4") (word "DomainName"), "Desk.open", "[IPv4]\nDomainName= \\sab \n", (0, 2, word "\\sab "))
    ∷ (iwd_lookup (word "Security") (word "Passphrase"), "Desk.psk", "[Security]\nPassphrase=1234567 ", (0, 2, word "1234567 "))
    ∷ (iwd_lookup (word "Security") (word "Passphrase"), "Desk.psk", "[Security]\nPassphrase=1234567", (12, 2, []))
    ∷ (iwd_lookup (word "Security") (word "Passphrase"), "Desk.psk", "", (14, 0, []))
    ∷ (iwd_lookup (word "Security") (word "Passphrase"), "Desk.open", "", (0, 0, []))
    ∷ []

abbrev computed : Case → Handed
computed c = handed (c.0 (word c.1) (word c.2)) (word c.2)

abbrev answer : Case → Handed
answer c = c.3

pub table : map computed cases ≡ map answer cases
unfolding reading line_fault grown sections_of service_fault file_fault fault with_line is_service group_of keys_of name_of network_of is_key_byte is_plain bracket_of setting_of line_of value_start typed kind_judged judged flag word_of ipv4 connman_ipv6 entries colon_pairs mac pre_shared_key_of ssid string decimal_value number address prefix_length_of length_up_to mask_length netmask addresses nibble unhex unescape_from follow utf8_from text
table = refl
