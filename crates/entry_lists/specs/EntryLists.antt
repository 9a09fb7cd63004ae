-- Lists of entries, as document 01 says under "Settings and their kinds": none where the value breaks its kind.
use Rattle.std.specs.Prelude.{ℕ, List, Option, Some}
use Rattle.text.specs.Bytes.{is_entry_byte}
use Rattle.text.specs.Parts.{all, pieces}
use Rattle.text.specs.Options.{only, sized, each}

-- "entries of 1 to 253 bytes without comma, space or tab"
abbrev pub entry : List ℕ → Option (List ℕ)
entry p = sized 1 253 (only (all is_entry_byte p) (Some p))

-- "SearchDomains and Timeservers (1 to 4 entries .., one comma between)"
unfoldable pub entries : List ℕ → Option (List (List ℕ))
entries s = sized 1 4 (each entry (pieces 44 s))
