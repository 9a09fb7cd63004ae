-- What is answered when a record is written and read back.
use Rattle.std.specs.Prelude.{ℕ, ◌≡◌, Bool, true, false, ◌&&◌, List, take, replicate, Ok, Err}
use Rattle.addresses.specs.Addresses.{no_address}
use Rattle.records.specs.declared.JoinRecord.{JoinRecord}
use Rattle.writer.specs.Writing.{writing, Writes}
use Rattle.joins.specs.Joins.{iwd_record, iwd_record_servers}
use Rattle.joins.specs.declared.RecordAnswer.{RecordAnswer}
use Rattle.comparing.specs.Same.{same_record, same_servers}
use Rattle.reading_back.specs.declared.Back.{Back}
use Rattle.rules.specs.Answering.{Answer}

-- an answer and its servers, against a record and servers; a refusal has no record
abbrev pub is_good : Answer → Bool
is_good (Ok u) = true
is_good (Err f) = false

abbrev pub same_answer : RecordAnswer → List (List ℕ) → JoinRecord → List (List ℕ) → Bool
same_answer x t r s = is_good x.answer && (same_record x.«record» r && same_servers t s)

-- whether the record of a file under its name, and its servers, are r and s
abbrev pub read_same : List ℕ → List ℕ → JoinRecord → List (List ℕ) → Bool
read_same name file r s = same_answer (iwd_record name file) (iwd_record_servers name file (replicate 4 no_address)) r s

-- the record r and its servers s are written into the buffers, which held n and f and hold x and y; what is compared is
-- read from the new bytes, and it is the same whenever something is written
pub record RoundTrips (r : JoinRecord) (s : List (List ℕ)) (n f x y : List ℕ) (b : Back) : Type 0 where
  pub writes : Writes (writing r s n f) n f x y b.written
  pub compared :
      b.same
      ≡ (is_good b.written.answer
      && read_same (take b.written.name_len x) (take b.written.file_len y) r s)
  pub same : b.same ≡ is_good b.written.answer
