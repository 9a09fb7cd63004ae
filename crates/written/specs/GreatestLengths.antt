-- How long the written iwd file can be, "no record the writer accepts ever needs more" of request 2026-01: its lines, each with
-- its greatest length, and what they come to.
use Rattle.std.specs.Prelude.{ℕ, ◌+◌, ◌*◌, ◌≤◌, ◌⊎◌, List, [], ◌∷◌, ◌++◌, length}
use Rattle.text.specs.Words.{word}
use Rattle.text.specs.declared.Dialect.TheVariants.{Iwd}
use Rattle.lines.specs.Lines.{Line}
use Rattle.lines.specs.Rendering.{render}

-- ---- the table: a row for each line that can be written, in the order of the file

-- a line: what stands in front of its value, and the greatest length of the value
abbrev pub LineRoom : Type 0
LineRoom = List ℕ × ℕ

abbrev pub settings_room : List LineRoom
settings_room = (word "[Settings]", 0) ∷ (word "Hidden=", length (word "true")) ∷ []

-- a passphrase of 63 bytes, each of them escaped; a key of 32 bytes is shorter
abbrev pub security_room : List LineRoom
security_room = (word "[Security]", 0) ∷ (word "Passphrase=", 2 * 63) ∷ []

-- the greatest length of an IPv4 address or a netmask
abbrev pub address_max : ℕ
address_max = length (word "255.255.255.255")

abbrev pub number_room : List LineRoom
number_room = (word "Address=", address_max) ∷ (word "Netmask=", address_max) ∷ (word "Gateway=", address_max) ∷ []

-- four name servers with a space between
abbrev pub server_room : List LineRoom
server_room = (word "DNS=", 4 * address_max + 3) ∷ []

-- a domain of 253 bytes, each of them escaped
abbrev pub domain_room : List LineRoom
domain_room = (word "DomainName=", 2 * 253) ∷ []

abbrev pub ipv4_room : List LineRoom
ipv4_room = (word "[IPv4]", 0) ∷ number_room ++ server_room ++ domain_room

-- the greatest length of an IPv6 address
abbrev pub ipv6_max : ℕ
ipv6_max = length (word "ffff:ffff:ffff:ffff:ffff:ffff:ffff:ffff")

-- an address and its length; `Enabled=false`, which stands in its place, is shorter
abbrev pub ipv6_room : List LineRoom
ipv6_room = (word "[IPv6]", 0) ∷ (word "Address=", ipv6_max + length (word "/128")) ∷ (word "Gateway=", ipv6_max) ∷ []

abbrev pub file_room : List LineRoom
file_room = settings_room ++ security_room ++ ipv4_room ++ ipv6_room

-- ---- what lines come to, each with its byte 10

abbrev pub total : List LineRoom → ℕ
total [] = 0
total (x ∷ t) = length x.0 + x.1 + 1 + total t

-- the greatest length of a file; that of its name is `name_max` (names `Names`)
abbrev pub file_max : ℕ
file_max = total file_room

-- ---- lines that stand under the table's, in its order, none longer; a line of the table may be left out

abbrev pub Under : List Line → List LineRoom → Type 0
Under [] t = Unit
Under (l ∷ ls) [] = ⊥
Under (l ∷ ls) (x ∷ t) = ((length (render Iwd l) ≤ length x.0 + x.1) × Under ls t) ⊎ Under (l ∷ ls) t
