-- An answer and servers that are the same as a record and servers are equal to them.
use Rattle.std.specs.Prelude.{ℕ, ◌≡◌, refl, true, ◌&&◌, List, Ok, Err}
use Rattle.std.proofs.lemmas.Bool.{false≢true}
use Rattle.text.specs.Laws.{and_true}
use Rattle.records.specs.declared.JoinRecord.{JoinRecord}
use Rattle.joins.specs.declared.RecordAnswer.{RecordAnswer}
use Rattle.comparing.specs.Same.{same_record, same_servers}
use Rattle.comparing.specs.SameLaws.{same_record_eq, same_servers_eq}
use Rattle.reading_back.specs.Back.{is_good, same_answer}
use Rattle.rules.specs.Answering.{Answer}

good_eq : (a : Answer) → is_good a ≡ true → a ≡ Ok tt
good_eq (Ok u) e = refl
good_eq (Err f) e = absurd (false≢true e)

pub same_answer_eq : (x : RecordAnswer) (t : List (List ℕ)) (r : JoinRecord) (s : List (List ℕ)) →
    same_answer x t r s ≡ true → (x ≡ record { answer = Ok tt; «record» = r }) × (t ≡ s)
same_answer_eq x t r s e =
    let k = and_true (is_good x.answer) (same_record x.«record» r && same_servers t s) e in
    let l = and_true (same_record x.«record» r) (same_servers t s) k.1 in
    ((λ i. record { answer = good_eq x.answer k.0 i; «record» = same_record_eq x.«record» r l.0 i }), same_servers_eq t s l.1)
