-- What a row of the table of places keeps of a key.
use Rattle.std.specs.Prelude.{ℕ, ◌+◌, ◌≤◌, ◌≡◌, Bool, not, List, eqb, length}
use Rattle.text.specs.Parts.{part}
use Rattle.text.specs.Words.{place}
use Rattle.named_words.specs.declared.Word.{Word}
use Rattle.tables.specs.KeyPlaces.{key_names}
use Rattle.rules.specs.WordNumbers.{word_number}
use Rattle.rules.specs.declared.Group.{Group}
use Rattle.places.specs.Store.{table_length, last_row, Slot, slot}
use Rattle.places.specs.Keys.{key_group, key_word, key_place}
use Rattle.places.specs.declared.KeyName.{KeyName}

-- a row from b on lies in the table
pub record RowInTable (x : List ℕ) (b : ℕ) : Type 0 where
  pub long : length x ≡ table_length
  pub row : b ≤ last_row

-- what the row from b on keeps of a key
abbrev pub key_slot : List ℕ → ℕ → KeyName → Slot
key_slot x b k = slot (b + key_place k) x

abbrev pub bytes_of : List ℕ → List ℕ → ℕ → KeyName → List ℕ
bytes_of file x b k = part (key_slot x b k).start (key_slot x b k).end file

-- its place lies in the file
pub record ValueInFile (file x : List ℕ) (b : ℕ) (k : KeyName) : Type 0 where
  pub table : RowInTable x b
  pub low : (key_slot x b k).start ≤ (key_slot x b k).end
  pub high : (key_slot x b k).end ≤ length file

-- whether the row of the group g has a key, by the key's word or its name; and whether that key is a word
abbrev pub row_has : List ℕ → ℕ → Group → List ℕ → Bool
row_has x b g k = not (eqb (slot (b + place k (key_names g)) x).line 0)

abbrev pub is_taken : List ℕ → ℕ → KeyName → Bool
is_taken x b k = row_has x b (key_group k) (key_word k)

abbrev pub slot_is : List ℕ → ℕ → KeyName → Word → Bool
slot_is x b k w = eqb (slot (b + key_place k) x).code (word_number w)
