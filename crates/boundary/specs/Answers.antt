-- What the reading, the lookups, the joins, the writer and the move answer, in the C boundary's structs: document 01's number and line, and what else is given.
use Rattle.std.specs.Prelude.{ℕ, ◌-◌, ◌≡◌, cond, List, replicate}
use Rattle.rules.specs.Numbers.{Seen, seen_of, answer_number, answer_line}
use Rattle.rules.specs.declared.Refusal.TheVariants.{Malformed}
use Rattle.record_layout.specs.Records.{record_at, known, record_in, servers_in}
use Rattle.record_layout.specs.declared.CRecord.{CRecord}
use Rattle.joins.specs.declared.RecordAnswer.{RecordAnswer}
use Rattle.writer.specs.Writing.{Writing, refuses, writing, written_answer, name_after, file_after}
use Rattle.writer.specs.declared.Written.{Written}
use Rattle.lookups.specs.declared.TextPlace.{TextPlace}
use Rattle.boundary.specs.declared.CReading.{CReading}
use Rattle.boundary.specs.declared.CRecordAnswer.{CRecordAnswer}
use Rattle.boundary.specs.declared.CText.{CText}
use Rattle.boundary.specs.declared.CWritten.{CWritten}
use Rattle.rules.specs.Answering.{Reading}

abbrev pub seen_at : Seen → CReading
seen_at s =
    record { line = s.line; settings = s.settings; services = s.services; number = s.number; reserved = replicate 7 0 }

abbrev pub reading_at : Reading → CReading
reading_at r = seen_at (seen_of r)

-- "the stretch of the lent file where it stands", by its start and its length
abbrev pub text_at : TextPlace → CText
text_at p =
    record { line = p.line; start = p.start; length = p.end - p.start; number = p.number; reserved = replicate 7 0 }

abbrev pub written_at : Written → CWritten
written_at a =
    record {
      line = answer_line a.answer;
      name_len = a.name_len;
      file_len = a.file_len;
      number = answer_number a.answer;
      reserved = replicate 7 0;
    }

abbrev pub record_answer_at : RecordAnswer → List (List ℕ) → CRecordAnswer
record_answer_at a s =
    record {
      line = answer_line a.answer;
      number = answer_number a.answer;
      «record» = record_at a.«record» s;
      reserved = replicate 7 0;
    }

-- what is written of a record that is brought in: 19 where a code is that of no case, and what is written of the record else
abbrev pub writing_in : CRecord → List ℕ → List ℕ → Writing
writing_in c n f = cond (known c) (writing (record_in c) (servers_in c) n f) (refuses Malformed 0)

-- what a call that writes leaves: its answer, and what the buffers of the name and of the file then hold
pub record Left : Type 0 where
  pub answer : CWritten
  pub name : List ℕ
  pub file : List ℕ

-- of what is written, into buffers that held n and f
abbrev pub left_of : Writing → List ℕ → List ℕ → Left
left_of w n f = record { answer = written_at (written_answer w); name = name_after w n; file = file_after w f }

-- the answer a, and the buffers x and y, are what is left
pub record Leaves (k : Left) (x y : List ℕ) (a : CWritten) : Type 0 where
  pub answer : a ≡ k.answer
  pub name : x ≡ k.name
  pub file : y ≡ k.file
