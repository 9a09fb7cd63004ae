-- Worked cases, by computation: document 01's `shop.config`, whose service 1 becomes `Desk 4.psk`, what a move refuses, and strings with
-- escapes and fixed IPv6 addresses on the way.
use Rattle.std.specs.Prelude.{◌≡◌, refl, List, [], ◌∷◌, ◌++◌, map, ℕ, replicate}
use Prim.Native.String.{String}
use Rattle.text.specs.Bytes.{is_key_byte, is_plain}
use Rattle.text.specs.Words.{word}
use Rattle.text.specs.Worked.{shop, desk}
use Rattle.utf8.specs.Utf8.{follow, utf8_from, text}
use Rattle.escapes.specs.Escapes.{unescape_from, escape_from}
use Rattle.hex_digits.specs.Hex.{nibble, unhex, hex_digit}
use Rattle.addresses.specs.Addresses.{decimal_value, number, address, prefix_length_of, length_up_to, mask_length, netmask, addresses, decimal, dotted, mask_bytes}
use Rattle.named_words.specs.NamedWords.{flag, word_of}
use Rattle.connman_ipv4.specs.ConnmanIpv4.{ipv4}
use Rattle.ipv6.specs.Ipv6.{hex_value, group, groups, side, halves, ipv6, group_digits, longest, canonical}
use Rattle.ipv6_values.specs.Ipv6Values.{connman_ipv6, with_length}
use Rattle.hex_values.specs.HexValues.{colon_pairs, mac, ssid}
use Rattle.entry_lists.specs.EntryLists.{entries}
use Rattle.kinds.specs.Kinds.{string}
use Rattle.kinds.specs.Typed.{typed, kind_judged, judged}
use Rattle.lines.specs.Lines.{bracket_of, setting_of, line_of, value_start}
use Rattle.names.specs.Names.{stem}
use Rattle.rules.specs.Tables.{is_service, group_of, keys_of}
use Rattle.rules.specs.Faults.{fault}
use Rattle.rules.specs.Sections.{with_line}
use Rattle.rules.specs.Groups.{service_fault}
use Rattle.rules.specs.Reading.{line_fault, grown, sections_of, reading}
use Rattle.rules.specs.declared.Refusal.TheVariants.{FileName, ValueText, Missing, NoPlace, ShortBuffer, NoService}
use Rattle.written.specs.Written.{name_text, file_text}
use Rattle.writer.specs.Writing.{Writing, writes, refuses}
use Rattle.mover.specs.Moves.{moving}

-- a name, a file, a service and the lengths of the two buffers
abbrev of : String → String → ℕ → ℕ → ℕ → Writing
of name file w n f = moving (word name) (word file) w (replicate n 0) (replicate f 0)

-- a service whose passphrase stands so in its file, and the file that has it so
abbrev service : String → Writing
service p = moving (word "shop.config") (word "[service_a]\nType=wifi\nName=Desk\nPassphrase=" ++ word p) 1 (replicate 70 0) (replicate 944 0)

abbrev written : String → Writing
written p = writes (word "Desk.psk") (word "[Security]\nPassphrase=" ++ word p ++ word "\n")

-- a move, and its answer
abbrev Case : Type 0
Case = Writing × Writing

abbrev cases : List Case
cases =
    (of "shop.config" shop 1 10 167, writes (word "Desk 4.psk") (word desk))
    ∷ (of "shop.config" shop 1 9 167, refuses ShortBuffer 0)
    ∷ (of "shop.config" shop 1 10 166, refuses ShortBuffer 0)
    ∷ (of "shop.config" shop 2 0 0, refuses NoService 0)
    ∷ (of "shop.psk" shop 1 70 944, refuses FileName 0)
    ∷ (of "shop.config" "[service_a]\nType=wifi\n" 0 70 944, refuses Missing 1)
    -- the earliest line, whatever its key
    ∷ (of "shop.config" "[service_a]\nTimeservers=t\nType=ethernet\n" 1 0 0, refuses NoPlace 2)
    ∷ (of "shop.config" "[service_a]\nType=wifi\nName=a\nIPv4=off\nMAC=00:11:22:33:44:55\n" 1 0 0, refuses NoPlace 4)
    -- blanks at either end and alone, bytes 9, 10 and 13, and a backslash at the end; one that only blanks follow is a bad escape
    ∷ (service "\\sleading", written "\\sleading")
    ∷ (service "trailing\\s \t", written "trailing ")
    ∷ (service "\\s\\s\\s\\s\\s\\s\\s\\s", written "\\s       ")
    ∷ (service "\\ttab\\ttab\\t", written "\\ttab\ttab\t")
    ∷ (service "line\\nline\\n", written "line\\nline\\n")
    ∷ (service "return\\r\\r", written "return\\r\\r")
    ∷ (service "backslash\\\\ ", written "backslash\\\\")
    ∷ (service "backslash\\ ", refuses ValueText 4)
    -- a fixed IPv6 address, as RFC 5952 writes it; without a gateway it has no place, and the earlier line is named (2026-03)
    ∷ (of "shop.config" "[service_a]\nType=wifi\nName=Desk\nIPv6=2001:DB8:0:0::14/64/2001:db8::1\n" 1 9 51, writes (word "Desk.open") (word "[IPv6]\nAddress=2001:db8::14/64\nGateway=2001:db8::1\n"))
    ∷ (of "shop.config" "[service_a]\nType=wifi\nName=Desk\nIPv6=2001:db8::14/64\n" 1 0 0, refuses NoPlace 4)
    ∷ (of "shop.config" "[service_a]\nType=wifi\nIPv6=::1/128\nName=Desk\nIPv4=off\n" 1 0 0, refuses NoPlace 3)
    ∷ []

abbrev computed : Case → Writing
computed c = c.0

abbrev answer : Case → Writing
answer c = c.1

pub table : map computed cases ≡ map answer cases
unfolding moving reading line_fault grown sections_of service_fault fault with_line is_service group_of keys_of stem is_key_byte is_plain bracket_of setting_of line_of value_start typed kind_judged judged flag word_of ipv4 hex_value group groups side halves ipv6 connman_ipv6 with_length hex_digit group_digits longest canonical entries colon_pairs mac ssid string decimal_value number address prefix_length_of length_up_to mask_length netmask addresses decimal dotted mask_bytes nibble unhex unescape_from escape_from follow utf8_from text name_text file_text
table = refl
