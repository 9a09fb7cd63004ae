-- Worked join records: document 01's service and iwd file, defaults, and what has no record.
use Rattle.std.specs.Prelude.{◌≡◌, refl, false, List, [], ◌∷◌, map, ℕ, replicate, None, Some}
use Prim.Native.String.{String}
use Rattle.text.specs.Bytes.{is_key_byte, is_plain}
use Rattle.text.specs.Words.{word}
use Rattle.text.specs.Worked.{shop, desk}
use Rattle.utf8.specs.Utf8.{follow, utf8_from, text}
use Rattle.escapes.specs.Escapes.{unescape_from}
use Rattle.hex_digits.specs.Hex.{nibble, unhex}
use Rattle.addresses.specs.Addresses.{decimal_value, number, address, prefix_length_of, length_up_to, mask_length, netmask, addresses}
use Rattle.named_words.specs.NamedWords.{flag, word_of}
use Rattle.connman_ipv4.specs.ConnmanIpv4.{ipv4}
use Rattle.addressing.specs.Addressing.{Addressing, auto, off, static}
use Rattle.ipv6.specs.Ipv6.{hex_value, group, groups, side, halves, ipv6}
use Rattle.ipv6_values.specs.Ipv6Values.{connman_ipv6, with_length}
use Rattle.hex_values.specs.HexValues.{colon_pairs, mac, pre_shared_key_of, ssid}
use Rattle.entry_lists.specs.EntryLists.{entries}
use Rattle.kinds.specs.Kinds.{string}
use Rattle.kinds.specs.Typed.{typed, kind_judged, judged}
use Rattle.lines.specs.Lines.{bracket_of, setting_of, line_of, value_start}
use Rattle.names.specs.Names.{name_of, network_of}
use Rattle.rules.specs.Tables.{is_service, group_of, keys_of}
use Rattle.rules.specs.Faults.{fault}
use Rattle.rules.specs.Sections.{with_line}
use Rattle.rules.specs.Groups.{service_fault, file_fault}
use Rattle.rules.specs.Reading.{line_fault, grown, sections_of, reading}
use Rattle.rules.specs.declared.Refusal.TheVariants.{ValueText, ValueKind, Missing, NoPlace, NoService}
use Rattle.records.specs.Record.{Secret, no_secret, passphrase, Join}
use Rattle.records.specs.Record as R
use Rattle.records.specs.Cases.{worked, till6, router6}
use Rattle.joins.specs.Joins.{Joined, joined, refused, iwd_joined, service_joined}

-- a record that is all defaults but for its name and credential
abbrev plain_join : String → Secret → Join
plain_join n c = record { name = word n; credential = c; hidden = false; ipv4 = auto; servers = []; domain = []; ipv6 = auto }

-- an open network whose addresses are given
abbrev with_numbers : Addressing → Join
with_numbers i = record { name = word "Desk"; credential = no_secret; hidden = false; ipv4 = i; servers = []; domain = []; ipv6 = auto }

abbrev with_ipv6 : Addressing → Join
with_ipv6 i = record { name = word "Desk"; credential = no_secret; hidden = false; ipv4 = auto; servers = []; domain = []; ipv6 = i }

-- ---- iwd

abbrev IwdCase : Type 0
IwdCase = String × String × Joined

-- cases 1, 2 and 8 of the twelve are the second, third and fourth; a Passphrase wins over a PreSharedKey; a mask is absent; a domain is unescaped; an IPv6 address has 128 where its length is left off (2026-03)
abbrev iwd_cases : List IwdCase
iwd_cases =
    ("Desk 4.psk", desk, joined worked)
    ∷ ("Desk.open", "", joined (plain_join "Desk" no_secret))
    ∷ ("Desk.psk", "", refused Missing 0)
    ∷ ("Desk.open", "[IPv4]\nAddress=10.0.0.2\nNetmask=255.255.254.0\nGateway=10.0.0.1", joined (with_numbers (static (10 ∷ 0 ∷ 0 ∷ 2 ∷ []) 23 (Some (10 ∷ 0 ∷ 0 ∷ 1 ∷ [])))))
    ∷ ("Desk.open", "[IPv4]\nAddress=10.0.0.2\nGateway=10.0.0.1", joined (with_numbers (static (10 ∷ 0 ∷ 0 ∷ 2 ∷ []) 24 (Some (10 ∷ 0 ∷ 0 ∷ 1 ∷ [])))))
    ∷ ("Desk.psk", "[Security]\nPreSharedKey=0101010101010101010101010101010101010101010101010101010101010101", joined (plain_join "Desk" (R.key (replicate 32 1))))
    ∷ ("Desk.psk", "[Security]\nPreSharedKey=0101010101010101010101010101010101010101010101010101010101010101\nPassphrase=1234567 ", joined (plain_join "Desk" (passphrase (word "1234567 "))))
    ∷ ("Desk.open", "[IPv4]\nDomainName=\\sab\n[IPv6]\nEnabled=1\n[Settings]\nHidden=0", joined (record { name = word "Desk"; credential = no_secret; hidden = false; ipv4 = auto; servers = []; domain = word " ab"; ipv6 = auto }))
    ∷ ("Desk.open", "[IPv6]\nAddress=2001:DB8:0:0::14/64\nGateway=2001:db8::1\nEnabled=true", joined (with_ipv6 (static till6 64 (Some router6))))
    ∷ ("Desk.open", "[IPv6]\nGateway=2001:db8::1\nAddress=2001:db8::14", joined (with_ipv6 (static till6 128 (Some router6))))
    ∷ ("Desk.open", "[IPv6]\nEnabled=0", joined (with_ipv6 off))
    ∷ []

abbrev of_iwd : IwdCase → Joined
of_iwd c = iwd_joined (word c.0) (word c.1)

abbrev iwd_answer : IwdCase → Joined
iwd_answer c = c.2

pub iwd_table : map of_iwd iwd_cases ≡ map iwd_answer iwd_cases
unfolding reading line_fault grown sections_of service_fault file_fault fault with_line is_service group_of keys_of name_of network_of is_key_byte is_plain bracket_of setting_of line_of value_start typed kind_judged judged flag word_of ipv4 hex_value group groups side halves ipv6 connman_ipv6 with_length entries colon_pairs mac pre_shared_key_of ssid string decimal_value number address prefix_length_of length_up_to mask_length netmask addresses nibble unhex unescape_from follow utf8_from text
iwd_table = refl

-- ---- ConnMan

abbrev ServiceCase : Type 0
ServiceCase = ℕ × String × Joined

-- case 9 of the twelve, without its move, is the fourth; SSID wins over Name; a Passphrase without Security, and neither; the second
-- service; what has no record, and services that are not there; strings that are unescaped behind the trimming
abbrev service_cases : List ServiceCase
service_cases =
    (1, shop, joined worked)
    ∷ (1, "[service_a]\nType=wifi\nName=Till\nSSID=4465736b\nPassphrase=12345678", joined (plain_join "Desk" (passphrase (word "12345678"))))
    ∷ (2, "[service_a]\nType=ethernet\n[global]\nName=x\n[service_b]\nType=wifi\nName=Desk", joined (plain_join "Desk" no_secret))
    ∷ (1, "[service_a]\nType=wifi\nName=Desk\nIPv4=10.0.0.2/24", joined (with_numbers (static (10 ∷ 0 ∷ 0 ∷ 2 ∷ []) 24 None)))
    ∷ (1, "[service_a]\nType=ethernet\n[service_b]\nType=wifi\nName=Desk", refused NoPlace 2)
    ∷ (1, "[service_a]\nType=wifi\nName=Desk\nSecurity=wep\nPassphrase=12345678", refused NoPlace 4)
    ∷ (1, "[service_a]\nType=wifi\nSecurity=ieee8021x\nName=Desk", refused NoPlace 3)
    ∷ (2, "[service_a]\nType=ethernet", refused NoService 0)
    ∷ (0, "[service_a]\nType=wifi\nName=Desk", refused NoService 0)
    ∷ (1, "[service_a]\nType=wifi\nName=\\s \nPassphrase= \\ta\\nb\\rcde\\s\t", joined (plain_join " " (passphrase (word "\ta\nb\rcde "))))
    ∷ (1, "[service_a]\nType=wifi\nName=Desk\nPassphrase=abcdefg\\ \t", refused ValueText 4)
    ∷ (1, "[service_a]\nType=wifi\nName=Desk\nIPv6=2001:db8::14/64/2001:DB8::0:1 ", joined (with_ipv6 (static till6 64 (Some router6))))
    ∷ (1, "[service_a]\nType=wifi\nName=Desk\nIPv6=2001:db8::14/64", joined (with_ipv6 (static till6 64 None)))
    ∷ (1, "[service_a]\nType=wifi\nName=Desk\nIPv6=auto", joined (with_ipv6 auto))
    ∷ (1, "[service_a]\nType=wifi\nName=Desk\nIPv6=2001:db8::14", refused ValueKind 4)
    ∷ []

abbrev of_service : ServiceCase → Joined
of_service c = service_joined (word "shop.config") (word c.1) c.0

abbrev service_answer : ServiceCase → Joined
service_answer c = c.2

pub service_table : map of_service service_cases ≡ map service_answer service_cases
unfolding reading line_fault grown sections_of service_fault file_fault fault with_line is_service group_of keys_of name_of network_of is_key_byte is_plain bracket_of setting_of line_of value_start typed kind_judged judged flag word_of ipv4 hex_value group groups side halves ipv6 connman_ipv6 with_length entries colon_pairs mac pre_shared_key_of ssid string decimal_value number address prefix_length_of length_up_to mask_length netmask addresses nibble unhex unescape_from follow utf8_from text
service_table = refl
