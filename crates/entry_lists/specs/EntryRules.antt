-- Lists of entries, said of the bytes: `EntryRuleLaws` shows that `entries` keeps to it.
use Rattle.std.specs.Prelude.{ℕ, ◌≡◌, true, List}
use Rattle.text.specs.Bytes.{is_entry_byte}
use Rattle.text.specs.Parts.{all}
use Rattle.text.specs.Pieces.{Pieces}
use Rattle.text.specs.Relations.{Each, Sized}

-- "entries of 1 to 253 bytes without comma, space or tab"
pub record EntryIs (p : List ℕ) : Type 0 where
  pub size : Sized 1 253 p
  pub bytes : all is_entry_byte p ≡ true

-- "SearchDomains and Timeservers (1 to 4 entries .., one comma between)"
pub record EntriesAre (v : List ℕ) (l : List (List ℕ)) : Type 0 where
  pub commas : Pieces 44 v l
  pub each : Each EntryIs l
  pub count : Sized 1 4 l
