-- The written iwd file, as document 01 says it under "The written iwd file": groups of lines, rendered; and its name.
use Rattle.std.specs.Prelude.{ℕ, Bool, true, false, ◌&&◌, List, [], ◌∷◌, ◌++◌, Option, None, Some}
use Rattle.text.specs.Words.{word}
use Rattle.text.specs.declared.Dialect.TheVariants as D
use Rattle.escapes.specs.Escapes.{escape}
use Rattle.hex_digits.specs.Hex.{hex}
use Rattle.addresses.specs.Addresses.{decimal, dotted, mask_bytes, listed}
use Rattle.addresses.specs.declared.Separator.TheVariants.{Spaces}
use Rattle.addressing.specs.Addressing.{Addressing, auto, off, static}
use Rattle.ipv6.specs.Ipv6.{canonical}
use Rattle.lines.specs.Lines.{Line, header, setting}
use Rattle.lines.specs.Rendering.{rendered}
use Rattle.names.specs.Names.{file_name}
use Rattle.names.specs.declared.Suffix.{Suffix}
use Rattle.names.specs.declared.Suffix.TheVariants as S
use Rattle.records.specs.Record.{Secret, no_secret, passphrase, key, Join}

-- ---- groups of settings

-- a setting: its key and its value
abbrev pub WrittenRow : Type 0
WrittenRow = List ℕ × List ℕ

-- a group: its name and its settings
pub record Block : Type 0 where
  pub name : List ℕ
  pub rows : List WrittenRow

abbrev pub row_lines : List WrittenRow → List Line
row_lines [] = []
row_lines (r ∷ rs) = setting r.0 r.1 ∷ row_lines rs

-- groups, "only those with a line"
abbrev pub headed_lines : List ℕ → List WrittenRow → List Line
headed_lines n [] = []
headed_lines n (r ∷ rs) = header n ∷ row_lines (r ∷ rs)

abbrev pub block_lines : List Block → List Line
block_lines [] = []
block_lines (b ∷ bs) = headed_lines b.name b.rows ++ block_lines bs

-- ---- the settings of a join record

-- "Hidden=true if hidden"
abbrev pub hidden_rows : Bool → List WrittenRow
hidden_rows false = []
hidden_rows true = (word "Hidden", word "true") ∷ []

-- "Passphrase or PreSharedKey (lower-case hex)"
abbrev pub secret_rows : Secret → List WrittenRow
secret_rows no_secret = []
secret_rows (passphrase p) = (word "Passphrase", escape p) ∷ []
secret_rows (key k) = (word "PreSharedKey", hex k) ∷ []

-- "perhaps a gateway", in the text of its family
abbrev pub gateway_rows : (List ℕ → List ℕ) → Option (List ℕ) → List WrittenRow
gateway_rows text None = []
gateway_rows text (Some g) = (word "Gateway", text g) ∷ []

-- "Address, Netmask, Gateway if static"
abbrev pub number_rows : Addressing → List WrittenRow
number_rows auto = []
number_rows off = []
number_rows (static a n g) = (word "Address", dotted a) ∷ (word "Netmask", dotted (mask_bytes n)) ∷ gateway_rows dotted g

-- "DNS with single spaces"
abbrev pub server_rows : List (List ℕ) → List WrittenRow
server_rows [] = []
server_rows (a ∷ l) = (word "DNS", listed Spaces (a ∷ l)) ∷ []

-- "DomainName"; "0 meaning absent"
abbrev pub domain_rows : List ℕ → List WrittenRow
domain_rows [] = []
domain_rows (c ∷ d) = (word "DomainName", escape (c ∷ d)) ∷ []

abbrev pub ipv4_rows : Addressing → List (List ℕ) → List ℕ → List WrittenRow
ipv4_rows i l d = number_rows i ++ server_rows l ++ domain_rows d

-- "Address is written always with its length", of which `/` stands in front (request 2026-03)
abbrev pub lengthened : List ℕ → ℕ → List ℕ
lengthened a n = canonical a ++ 47 ∷ decimal n

-- "Enabled=false if off"; an Address, "then Gateway" (request 2026-03)
abbrev pub ipv6_rows : Addressing → List WrittenRow
ipv6_rows auto = []
ipv6_rows off = (word "Enabled", word "false") ∷ []
ipv6_rows (static a n g) = (word "Address", lengthened a n) ∷ gateway_rows canonical g

-- "Groups in the order Settings, Security, IPv4, IPv6"
abbrev pub blocks_of : Join → List Block
blocks_of j =
    record { name = word "Settings"; rows = hidden_rows j.hidden }
    ∷ record { name = word "Security"; rows = secret_rows j.credential }
    ∷ record { name = word "IPv4"; rows = ipv4_rows j.ipv4 j.servers j.domain }
    ∷ record { name = word "IPv6"; rows = ipv6_rows j.ipv6 }
    ∷ []

-- "No blank lines, every line ends with byte 10."
unfoldable pub file_text : Join → List ℕ
file_text j = rendered D.Iwd (block_lines (blocks_of j))

-- ---- the file's name: `.open` for a network without a key, else `.psk`

abbrev pub suffix_for : Secret → Suffix
suffix_for no_secret = S.Open
suffix_for (passphrase p) = S.Psk
suffix_for (key k) = S.Psk

unfoldable pub name_text : Join → List ℕ
name_text j = file_name j.name (suffix_for j.credential)

-- ---- what iwd has a place for

-- not "static without gateway"
abbrev pub routed : Addressing → Bool
routed auto = true
routed off = true
routed (static a n None) = false
routed (static a n (Some g)) = true

-- "No place in iwd .. For the writer: IPv4 off, or static without gateway."
abbrev pub ipv4_placed : Addressing → Bool
ipv4_placed auto = true
ipv4_placed off = false
ipv4_placed (static a n g) = routed (static a n g)

-- of IPv6 "static without gateway 16, both in a move and in the writer, so it joins both of 01's lists" (request 2026-03)
abbrev pub ipv6_placed : Addressing → Bool
ipv6_placed i = routed i

abbrev pub has_place : Join → Bool
has_place j = ipv4_placed j.ipv4 && ipv6_placed j.ipv6
