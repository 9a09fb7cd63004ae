-- Worked readings: a dialect, a name and a file; what a caller sees.
use Rattle.std.specs.Prelude.{◌≡◌, refl, List, [], ◌∷◌, map, ℕ}
use Prim.Native.String.{String}
use Rattle.text.specs.Bytes.{is_key_byte, is_plain}
use Rattle.text.specs.Words.{word}
use Rattle.text.specs.Worked.{shop, desk}
use Rattle.text.specs.declared.Dialect.{Dialect}
use Rattle.text.specs.declared.Dialect.TheVariants.{Iwd, ConnMan}
use Rattle.utf8.specs.Utf8.{follow, utf8_from, text}
use Rattle.escapes.specs.Escapes.{unescape_from}
use Rattle.hex_digits.specs.Hex.{nibble, unhex}
use Rattle.addresses.specs.Addresses.{decimal_value, number, address, prefix_length_of, length_up_to, mask_length, netmask, addresses}
use Rattle.named_words.specs.NamedWords.{flag, word_of}
use Rattle.ipv6.specs.Ipv6.{hex_value, group, groups, side, halves, ipv6}
use Rattle.connman_ipv4.specs.ConnmanIpv4.{ipv4}
use Rattle.ipv6_values.specs.Ipv6Values.{connman_ipv6, with_length}
use Rattle.hex_values.specs.HexValues.{colon_pairs, mac, pre_shared_key_of, ssid}
use Rattle.entry_lists.specs.EntryLists.{entries}
use Rattle.kinds.specs.Kinds.{string}
use Rattle.kinds.specs.Typed.{typed, kind_judged, judged}
use Rattle.lines.specs.Lines.{bracket_of, setting_of, line_of, value_start}
use Rattle.names.specs.Names.{name_of, network_of}
use Rattle.rules.specs.Numbers.{Seen, seen_of}
use Rattle.rules.specs.Tables.{is_service, group_of, keys_of}
use Rattle.rules.specs.Faults.{fault}
use Rattle.rules.specs.Sections.{with_line}
use Rattle.rules.specs.Groups.{service_fault, file_fault}
use Rattle.rules.specs.Reading.{line_fault, grown, sections_of, reading}

abbrev accepted : ℕ → ℕ → Seen
accepted n m = record { number = 0; line = 0; settings = n; services = m }

abbrev refused : ℕ → ℕ → Seen
refused n l = record { number = n; line = l; settings = 0; services = 0 }

abbrev Case : Type 0
Case = Dialect × String × String × Seen

abbrev cases : List Case
cases =
    (ConnMan, "shop.config", shop, accepted 7 1)
    ∷ (Iwd, "Desk 4.psk", desk, accepted 7 0)
    ∷ (Iwd, "Desk.open", "", accepted 0 0)
    ∷ (Iwd, "Desk.psk", "", refused 14 0)
    ∷ (Iwd, "Desk.conf", "x", refused 2 0)
    ∷ (ConnMan, "Desk.psk", "", refused 2 0)
    ∷ (Iwd, "=4465736b.psk", "", refused 2 0)
    ∷ (Iwd, "Desk.open", "\nHidden\n", refused 3 2)
    ∷ (Iwd, "Desk.open", "[@pem", refused 4 1)
    ∷ (ConnMan, "a.config", "[global\n", refused 5 1)
    ∷ (ConnMan, "a.config", "[service_]\n", refused 6 1)
    ∷ (ConnMan, "a.config", "[global]\n\n[global]\n", refused 7 3)
    ∷ (Iwd, "Desk.open", "# none\nHidden=true", refused 8 2)
    ∷ (Iwd, "Desk.open", "[Settings]\nName=true", refused 9 2)
    ∷ (Iwd, "Desk.open", "[Settings]\nHidden=true\nHidden=x", refused 10 3)
    ∷ (Iwd, "Desk.psk", "[Security]\nPassphrase=a\\", refused 11 2)
    ∷ (ConnMan, "a.config", "[global]\nName=a\\", refused 11 2)
    ∷ (ConnMan, "a.config", "[global]\nName=\\s\nDescription=\\x", refused 11 3)
    ∷ (ConnMan, "a.config", "[service_a]\nType=wifi\nName=\\S", refused 11 3)
    ∷ (ConnMan, "a.config", "[service_a]\nType=wifi\nName=a\nPassphrase=1234567\\", refused 11 4)
    ∷ (ConnMan, "a.config", "[service_a]\nType=wifi\nName=a\nDomain=a\\ \t", refused 11 4)
    ∷ (ConnMan, "a.config", "[service_a]\nType=wifi\nName=a\nPassphrase=1234567\\s \t", accepted 3 1)
    ∷ (ConnMan, "a.config", "[service_a]\nType=wifi\nName=a\nPassphrase=123456\\s", refused 12 4)
    ∷ (ConnMan, "a.config", "[service_a]\nType=wifi\nName=a\nSearchDomains=a\\b\nTimeservers=a\\", accepted 4 1)
    ∷ (ConnMan, "a.config", "[service_a]\nType=wifi\nName=a\nIPv6=2001:db8::2/64/2001:db8::1", accepted 3 1)
    ∷ (ConnMan, "a.config", "[service_a]\nType=wifi\nName=a\nIPv6=2001:db8::2", refused 12 4)
    ∷ (Iwd, "Desk.open", "[IPv6]\nAddress=2001:db8::2\nGateway=2001:db8::1/64", refused 12 3)
    ∷ (Iwd, "Desk.open", "[IPv6]\nAddress=2001:db8::2/064\nGateway=2001:db8::1", refused 12 2)
    ∷ (Iwd, "Desk.open", "[IPv6]\nNetmask=255.0.0.0", refused 9 2)
    ∷ (Iwd, "Desk.psk", "[Security]\nPassphrase=1234567", refused 12 2)
    ∷ (Iwd, "Desk.psk", "[Security]\nPassphrase=12345678", accepted 1 0)
    ∷ (Iwd, "Desk.psk", "[Security]\nPassphrase=1234567 ", accepted 1 0)
    ∷ (ConnMan, "a.config", "[service_a]\nType=wifi\nName=a\nPassphrase=1234567 ", refused 12 4)
    ∷ (ConnMan, "a.config", "[service_1]\n[service_2]\n[service_3]\n[service_4]\n[service_5]\n[service_6]\n[service_7]\n[service_8]\n[service_9]", refused 13 9)
    ∷ (ConnMan, "a.config", "[service_1]\n[service_2]\n[service_3]\n[service_4]\n[service_5]\n[service_6]\n[service_7]\n[service_8]\n[service_1]", refused 7 9)
    ∷ (ConnMan, "a.config", "[service_a]\nType=ethernet\nHidden=false\n[service_b]", refused 15 1)
    ∷ (ConnMan, "a.config", "[service_a]\nType=ethernet\nSecurity=psk\n", refused 14 1)
    ∷ (ConnMan, "a.config", "[service_a]\nType=wifi\nSSID=44\nSecurity=none\nPassphrase=12345678", refused 15 1)
    ∷ (ConnMan, "a.config", "[service_a]\n[service_b]\nx", refused 3 3)
    ∷ (Iwd, "Desk.open", "[IPv4]\nAddress=10.0.0.2", refused 14 0)
    ∷ (Iwd, "Desk.open", "[IPv4]\nBroadcast=10.0.0.2", refused 14 0)
    ∷ (Iwd, "Desk.open", "[Security]\nPassphrase=12345678", refused 15 0)
    ∷ (Iwd, "Desk.psk", "[IPv4]\nNetmask=255.0.255.0", refused 12 2)
    -- request 2026-03: "iwd Gateway without Address or the reverse 14", each group by itself
    ∷ (Iwd, "Desk.open", "[IPv6]\nAddress=fd00::2/64\nGateway=fd00::1", accepted 2 0)
    ∷ (Iwd, "Desk.open", "[IPv6]\nAddress=fd00::2/64", refused 14 0)
    ∷ (Iwd, "Desk.open", "[IPv6]\nGateway=fd00::1", refused 14 0)
    ∷ (Iwd, "Desk.open", "[IPv4]\nAddress=10.0.0.2\nGateway=10.0.0.1\n[IPv6]\nGateway=fd00::1", refused 14 0)
    ∷ (Iwd, "Desk.open", "[IPv6]\nAddress=fd00::2/64\nGateway=fd00::1\n[IPv4]\nGateway=10.0.0.1", refused 14 0)
    ∷ (Iwd, "Desk.open", "[IPv4]\nGateway=10.0.0.1\n[IPv6]\nAddress=fd00::2/64", refused 14 0)
    -- "iwd Enabled false beside Address 15"
    ∷ (Iwd, "Desk.open", "[IPv6]\nEnabled=false\nAddress=fd00::2/64\nGateway=fd00::1", refused 15 0)
    ∷ (Iwd, "Desk.open", "[IPv6]\nGateway=fd00::1\nAddress=fd00::2/64\nEnabled=0", refused 15 0)
    ∷ (Iwd, "Desk.open", "[IPv6]\nEnabled=true\nAddress=fd00::2/64\nGateway=fd00::1", accepted 3 0)
    ∷ (Iwd, "Desk.open", "[IPv6]\nEnabled=1\nAddress=fd00::2/64\nGateway=fd00::1", accepted 3 0)
    ∷ (Iwd, "Desk.open", "[IPv6]\nEnabled=false\n[IPv4]\nAddress=10.0.0.2\nGateway=10.0.0.1", accepted 3 0)
    -- 14 before 15
    ∷ (Iwd, "Desk.open", "[IPv6]\nEnabled=false\nAddress=fd00::2/64", refused 14 0)
    ∷ (Iwd, "Desk.open", "[Security]\nPassphrase=12345678\n[IPv6]\nGateway=fd00::1", refused 14 0)
    ∷ (Iwd, "Desk.psk", "[IPv6]\nEnabled=0\nAddress=fd00::2/64\nGateway=fd00::1", refused 14 0)
    ∷ []

abbrev of : Case → Seen
of c = seen_of (reading c.0 (word c.1) (word c.2))

abbrev answer : Case → Seen
answer c = c.3

pub table : map of cases ≡ map answer cases
unfolding reading line_fault grown sections_of service_fault file_fault fault with_line is_service group_of keys_of name_of network_of is_key_byte is_plain bracket_of setting_of line_of value_start typed kind_judged judged flag word_of hex_value group groups side halves ipv6 ipv4 connman_ipv6 with_length entries colon_pairs mac pre_shared_key_of ssid string decimal_value number address prefix_length_of length_up_to mask_length netmask addresses nibble unhex unescape_from follow utf8_from text
table = refl
