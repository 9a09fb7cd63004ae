-- What is answered of a service by the row that keeps its settings.
use Rattle.std.specs.Prelude.{ℕ, ◌≡◌, List, Option}
use Rattle.text.specs.declared.Dialect.TheVariants.{ConnMan}
use Rattle.rules.specs.Sections.{Entry, entry_of}
use Rattle.rules.specs.declared.Group.TheVariants as G
use Rattle.places.specs.Holds.{RowKeeps}
use Rattle.joins.specs.Joins.{Joined, or_no_place, no_record, service_join, record_answer, servers_after}
use Rattle.joins.specs.declared.RecordAnswer.{RecordAnswer}

-- what is answered of a service: the answer, and the lent servers after it
abbrev pub of_service : (List ℕ → Option Entry) → Joined
of_service at = or_no_place (no_record at) (service_join at)

-- the same of the service whose settings the row from b on keeps
pub record RowAnswered (file x : List ℕ) (b : ℕ) (old new : List (List ℕ)) (r : RecordAnswer) : Type 0 where
  pub is : (es : List Entry) → RowKeeps ConnMan file x b G.Service es → r ≡ record_answer (of_service (λ k. entry_of k es))
  pub servers : (es : List Entry) → RowKeeps ConnMan file x b G.Service es →
      new ≡ servers_after (of_service (λ k. entry_of k es)) old
