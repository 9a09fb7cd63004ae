-- Document 01's "Twelve cases for the one table", by computation.
use Rattle.std.specs.Prelude.{◌≡◌, refl, false, List, [], ◌∷◌, map, ℕ, replicate, Option, Some}
use Prim.Native.String.{String}
use Rattle.text.specs.Bytes.{is_key_byte, is_plain}
use Rattle.text.specs.Words.{word}
use Rattle.text.specs.declared.Dialect.{Dialect}
use Rattle.text.specs.declared.Dialect.TheVariants.{Iwd, ConnMan}
use Rattle.utf8.specs.Utf8.{follow, utf8_from, text}
use Rattle.escapes.specs.Escapes.{unescape, escape, unescape_from, escape_from}
use Rattle.hex_digits.specs.Hex.{nibble, unhex, hex, hex_digit}
use Rattle.addresses.specs.Addresses.{number, address, prefix_length_of, length_up_to, mask_length, netmask, addresses, decimal_value}
use Rattle.named_words.specs.NamedWords.{flag, word_of}
use Rattle.connman_ipv4.specs.ConnmanIpv4.{ipv4}
use Rattle.addressing.specs.Addressing.{auto, static}
use Rattle.ipv6.specs.Ipv6.{hex_value, group, groups, side, halves, ipv6}
use Rattle.ipv6_values.specs.Ipv6Values.{connman_ipv6, with_length}
use Rattle.hex_values.specs.HexValues.{colon_pairs, mac, ssid, pre_shared_key_of}
use Rattle.entry_lists.specs.EntryLists.{entries}
use Rattle.kinds.specs.Kinds.{string}
use Rattle.kinds.specs.Typed.{typed, kind_judged, judged}
use Rattle.lines.specs.Lines.{bracket_of, setting_of, line_of, value_start}
use Rattle.names.specs.Names.{name_of, network_of, stem}
use Rattle.records.specs.Record.{Secret, no_secret, passphrase}
use Rattle.joins.specs.Joins.{Joined, joined, iwd_joined}
use Rattle.rules.specs.Numbers.{Seen, seen_of}
use Rattle.rules.specs.Tables.{is_service, group_of, keys_of}
use Rattle.rules.specs.Faults.{fault}
use Rattle.rules.specs.Sections.{with_line}
use Rattle.rules.specs.Groups.{service_fault, file_fault}
use Rattle.rules.specs.Reading.{line_fault, grown, sections_of, reading}
use Rattle.rules.specs.declared.Refusal.TheVariants.{NoPlace}
use Rattle.written.specs.Written.{name_text}
use Rattle.writer.specs.Writing.{Writing, refuses}
use Rattle.mover.specs.Moves.{moving}

-- what is asked: the reading of a file under a name, the join record of an iwd file, the string that is written so, how a string is written, the length of a mask, the file name of a network with a key, the move of a service
pub data Question : Type 0 where
  reads : Dialect → String → String → Question
  joins : String → String → Question
  string_of : String → Question
  written : List ℕ → Question
  mask : String → Question
  file_of : List ℕ → Secret → Question
  moves : String → String → ℕ → Question

pub data Answer : Type 0 where
  seen : Seen → Answer
  record_is : Joined → Answer
  bytes : Option (List ℕ) → Answer
  length_is : Option ℕ → Answer
  moved : Writing → Answer

abbrev of : Question → Answer
of (reads d name file) = seen (seen_of (reading d (word name) (word file)))
of (joins name file) = record_is (iwd_joined (word name) (word file))
of (string_of s) = bytes (unescape (word s))
of (written s) = bytes (Some (escape s))
of (mask s) = length_is (netmask (word s))
of (file_of n s) = bytes (Some (name_text (record { name = n; credential = s; hidden = false; ipv4 = auto; servers = []; domain = []; ipv6 = auto })))
of (moves name file w) = moved (moving (word name) (word file) w (replicate 70 0) (replicate 944 0))

abbrev accepted : ℕ → ℕ → Answer
accepted n m = seen (record { number = 0; line = 0; settings = n; services = m })

abbrev refused : ℕ → ℕ → Answer
refused n l = seen (record { number = n; line = l; settings = 0; services = 0 })

-- a case's number, what is asked, and the answer
abbrev Case : Type 0
Case = ℕ × Question × Answer

abbrev cases : List Case
cases =
    (1, reads Iwd "Desk.open" "", accepted 0 0)
    ∷ (1, joins "Desk.open" "", record_is (joined (record { name = word "Desk"; credential = no_secret; hidden = false; ipv4 = auto; servers = []; domain = []; ipv6 = auto })))
    ∷ (2, reads Iwd "Desk.psk" "", refused 14 0)
    ∷ (3, string_of "\\sab", bytes (Some (32 ∷ 97 ∷ 98 ∷ [])))
    ∷ (3, written (32 ∷ 97 ∷ 98 ∷ []), bytes (Some (word "\\sab")))
    ∷ (4, reads Iwd "Desk.psk" "[Security]\nPassphrase=a\\", refused 11 2)
    ∷ (5, file_of (67 ∷ 97 ∷ 102 ∷ 195 ∷ 169 ∷ []) (passphrase (word "12345678")), bytes (Some (word "=436166c3a9.psk")))
    ∷ (6, reads Iwd "=4465736b.psk" "[Security]\nPassphrase=12345678", refused 2 0)
    ∷ (7, reads Iwd "Desk.open" "[IPv4]\nAddress=10.0.0.2\nGateway=10.0.0.1\nNetmask=255.0.255.0\n", refused 12 4)
    ∷ (8, reads Iwd "Desk.open" "[IPv4]\nAddress=10.0.0.2\nGateway=10.0.0.1\nNetmask=255.255.254.0\n", accepted 3 0)
    ∷ (8, mask "255.255.254.0", length_is (Some 23))
    ∷ (8, joins "Desk.open" "[IPv4]\nAddress=10.0.0.2\nGateway=10.0.0.1\nNetmask=255.255.254.0\n", record_is (joined (record { name = word "Desk"; credential = no_secret; hidden = false; ipv4 = static (10 ∷ 0 ∷ 0 ∷ 2 ∷ []) 23 (Some (10 ∷ 0 ∷ 0 ∷ 1 ∷ [])); servers = []; domain = []; ipv6 = auto })))
    ∷ (9, reads ConnMan "a.config" "[service_a]\nType=wifi\nName=a\nIPv4=10.0.0.2/24\n", accepted 3 1)
    ∷ (9, moves "a.config" "[service_a]\nType=wifi\nName=a\nIPv4=10.0.0.2/24\n" 1, moved (refuses NoPlace 4))
    ∷ (10, reads Iwd "Desk.open" "[IPv4]\nGateway=10.0.0.1\nAddress=01.2.3.4\n", refused 12 3)
    ∷ (10, reads Iwd "Desk.open" "[IPv4]\nGateway=10.0.0.1\nAddress=256.1.1.1\n", refused 12 3)
    ∷ (11, reads Iwd "Desk.psk" "[Security]\nPassphrase=1234567", refused 12 2)
    ∷ (11, reads Iwd "Desk.psk" "[Security]\nPassphrase=12345678", accepted 1 0)
    ∷ (12, reads Iwd "Desk.psk" "[Security]\nPassphrase=1234567 ", accepted 1 0)
    ∷ (12, reads ConnMan "a.config" "[service_a]\nType=wifi\nName=a\nPassphrase=1234567 ", refused 12 4)
    ∷ []

abbrev computed : Case → Answer
computed c = of c.1

abbrev answer : Case → Answer
answer c = c.2

pub table : map computed cases ≡ map answer cases
unfolding reading line_fault grown sections_of service_fault file_fault fault with_line is_service group_of keys_of name_of network_of stem is_key_byte is_plain bracket_of setting_of line_of value_start typed kind_judged judged flag word_of ipv4 hex_value group groups side halves ipv6 connman_ipv6 with_length entries colon_pairs mac pre_shared_key_of ssid string decimal_value number address prefix_length_of length_up_to mask_length netmask addresses nibble unhex hex_digit hex unescape_from escape_from follow utf8_from text name_text moving
table = refl
