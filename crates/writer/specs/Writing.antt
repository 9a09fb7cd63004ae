-- What the writer answers: "The writer asks 19, 16, 17.", and what the two buffers hold after it.
use Rattle.std.specs.Prelude.{ℕ, ◌≤◌, ◌≡◌, Bool, cond, ◌&&◌, List, ◌++◌, leb, length, drop, Ok}
use Rattle.rules.specs.declared.Refusal.{Refusal}
use Rattle.rules.specs.declared.Refusal.TheVariants.{Malformed, NoPlace, ShortBuffer}
use Rattle.records.specs.Record.{Join, joined}
use Rattle.records.specs.Formed.{formed}
use Rattle.records.specs.declared.JoinRecord.{JoinRecord}
use Rattle.names.specs.Names.{name_max}
use Rattle.written.specs.Written.{has_place, name_text, file_text}
use Rattle.written.specs.GreatestLengths.{file_max}
use Rattle.writer.specs.declared.Written.{Written}
use Rattle.rules.specs.Answering.{refused_at}

-- the name and the file that are written, or a refusal and its line, which is "0 from the writer"
pub data Writing : Type 0 where
  writes : List ℕ → List ℕ → Writing
  refuses : Refusal → ℕ → Writing

-- "A buffer has room when it is at least as long as what must be written into it."
abbrev pub room : List ℕ → List ℕ → Bool
room t buffer = leb (length t) (length buffer)

-- room for every name and every file that is ever written: "Buffers of those sizes" (request 2026-01)
pub record Ample (n f : List ℕ) : Type 0 where
  pub name : name_max ≤ length n
  pub file : file_max ≤ length f

-- 17: "a lent output buffer is shorter than what must be written"; n is the buffer of the name, f that of the file
abbrev pub writing_of : Join → List ℕ → List ℕ → Writing
writing_of j n f = cond (room (name_text j) n && room (file_text j) f) (writes (name_text j) (file_text j)) (refuses ShortBuffer 0)

-- 16, before 17
abbrev pub writing_placed : Join → List ℕ → List ℕ → Writing
writing_placed j n f = cond (has_place j) (writing_of j n f) (refuses NoPlace 0)

-- 19, before both
unfoldable pub writing : JoinRecord → List (List ℕ) → List ℕ → List ℕ → Writing
writing r s n f = cond (formed r s) (writing_placed (joined r s) n f) (refuses Malformed 0)

-- ---- the answer and the buffers

-- "the answer gives for each how many are new"; of a refusal "all other result fields zero"
abbrev pub written_answer : Writing → Written
written_answer (writes a b) = record { answer = Ok tt; name_len = length a; file_len = length b }
written_answer (refuses r l) = record { answer = refused_at r l; name_len = 0; file_len = 0 }

-- "After a success each output buffer holds the new bytes first and its old bytes after them"
abbrev pub on_front : List ℕ → List ℕ → List ℕ
on_front new old = new ++ drop (length new) old

abbrev pub name_after : Writing → List ℕ → List ℕ
name_after (writes a b) old = on_front a old
name_after (refuses r l) old = old

abbrev pub file_after : Writing → List ℕ → List ℕ
file_after (writes a b) old = on_front b old
file_after (refuses r l) old = old

-- the answer a, and the buffers x and y, which held n and f, are those of w
pub record Writes (w : Writing) (n f x y : List ℕ) (a : Written) : Type 0 where
  pub answer : a ≡ written_answer w
  pub name : x ≡ name_after w n
  pub file : y ≡ file_after w f
