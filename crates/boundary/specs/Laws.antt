-- What is handed out as a record is written as that record; and the lengths of a record that is answered fit a byte.
use Rattle.std.specs.Prelude.{ℕ, ◌≡◌, refl, List}
use Rattle.std.proofs.Common.{arith}
use Rattle.records.specs.Record.{Join}
use Rattle.records.specs.Formed.{WellFormed, Arrays}
use Rattle.records.specs.declared.JoinRecord.{JoinRecord}
use Rattle.record_layout.specs.Records.{record_at, FitsBytes}
use Rattle.record_layout.specs.Laws.{record_back, record_known, fours_sixteen, laid_short}
use Rattle.joins.specs.Joins.{Joined, joined, refused, iwd_joined, service_joined, record_answer, iwd_record, service_record}
use Rattle.joins.specs.Answered.{iwd_formed, service_formed}
use Rattle.writer.specs.Writing.{writing}
use Rattle.boundary.specs.Answers.{writing_in}

pub writing_back : (r : JoinRecord) (s : List (List ℕ)) → Arrays r s → (n f : List ℕ) →
    writing_in (record_at r s) n f ≡ writing r s n f
writing_back r s a n f = rw (record_known r s, record_back r s, fours_sixteen s a.servers a.server_bytes)

answer_short : (x : Joined) → ((j : Join) → x ≡ joined j → WellFormed j) → FitsBytes (record_answer x).«record»
answer_short (joined j) f = laid_short j (f j refl)
answer_short (refused r l) f =
    record { name = omega arith; passphrase = omega arith; servers = omega arith; domain = omega arith }

pub iwd_short : (name file : List ℕ) → FitsBytes (iwd_record name file).«record»
unfolding iwd_record
iwd_short name file = answer_short (iwd_joined name file) (λ j e. iwd_formed name file e)

pub service_short : (name file : List ℕ) (w : ℕ) → FitsBytes (service_record name file w).«record»
unfolding service_record
service_short name file w = answer_short (service_joined name file w) (λ j e. service_formed name file w e)
