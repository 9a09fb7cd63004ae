-- The kinds of values that are strings, as document 01 lists them under "Settings and their kinds": none where the value breaks its kind.
-- The others are in the crates below: `NamedWords`, `Addresses`, `Ipv6`, `ConnmanIpv4`, `Ipv6Values`, `EntryLists`, `HexValues`; `Typed` lists
-- them all.
use Rattle.std.specs.Prelude.{ℕ, List, Option}
use Rattle.text.specs.Options.{sized}
use Rattle.escapes.specs.Escapes.{unescape}

-- a string of low to high bytes: "Every string's length counts its bytes after unescaping." What is read is the value as it was trimmed
-- (lines `ended`): strings "are to be unescaped after the whitespace is trimmed, and lengths count the bytes after that" (2026-02).
unfoldable pub string : ℕ → ℕ → List ℕ → Option (List ℕ)
string low high s = sized low high (unescape s)

-- "Passphrase (string, 8 to 63 bytes after unescaping)"
abbrev pub passphrase : List ℕ → Option (List ℕ)
passphrase s = string 8 63 s
