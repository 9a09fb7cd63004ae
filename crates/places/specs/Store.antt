-- The table of places, slot by slot: each with a start, an end, a line and a code.
use Rattle.std.specs.Prelude.{ℕ, ◌+◌, ◌*◌, ◌≤◌, ◌<◌, ◌≡◌, List, length, get_or, set}

-- "file over 16,384 bytes" is refused, so that each number of a good file fits the table
abbrev pub file_limit : ℕ
file_limit = 16384

-- how many slots there are, and how many numbers: the starts of all slots, their ends, their lines, and their codes
abbrev pub slot_count : ℕ
slot_count = 244

abbrev pub lines_from : ℕ
lines_from = 488

abbrev pub codes_from : ℕ
codes_from = 732

abbrev pub table_length : ℕ
table_length = 976

-- how many slots a row has; a row for `global`, or for an iwd group, and one for each of eight services
abbrev pub row_length : ℕ
row_length = 25

abbrev pub last_row : ℕ
last_row = 8 * row_length

-- a slot's start, end, line and code
pub record Slot : Type 0 where
  pub start : ℕ
  pub end : ℕ
  pub line : ℕ
  pub code : ℕ

abbrev pub slot : ℕ → List ℕ → Slot
slot i x =
    record {
      start = get_or x i 0;
      end = get_or x (slot_count + i) 0;
      line = get_or x (lines_from + i) 0;
      code = get_or x (codes_from + i) 0;
    }

abbrev pub empty_slot : Slot
empty_slot = record { start = 0; end = 0; line = 0; code = 0 }

-- a table with one slot anew
unfoldable pub stored : ℕ → Slot → List ℕ → List ℕ
stored i s x =
    set (set (set (set x i s.start) (slot_count + i) s.end) (lines_from + i) s.line) (codes_from + i) s.code

-- a place and its line fit the table
pub record FitsSlot (start end line : ℕ) : Type 0 where
  pub low : start < 65536
  pub high : end < 65536
  pub counted : line < 65536

-- a slot's place lies in the file
pub record SlotIn (file x : List ℕ) (i : ℕ) : Type 0 where
  pub long : length x ≡ table_length
  pub few : i < slot_count
  pub low : (slot i x).start ≤ (slot i x).end
  pub high : (slot i x).end ≤ length file
