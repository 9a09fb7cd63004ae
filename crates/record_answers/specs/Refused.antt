-- A refused file is refused by every entry point that reads its settings or its records, with the same number and line,
-- zeros for all else, and lent name servers as they were.
use Rattle.std.specs.Prelude.{ℕ, ◌≡◌, List}
use Rattle.text.specs.declared.Dialect.TheVariants as D
use Rattle.rules.specs.Reading.{reading}
use Rattle.rules.specs.declared.Refusal.{Refusal}
use Rattle.settings.specs.Absent.{zero_iwd_settings, zero_service_settings, iwd_absent_zero, service_absent_zero}
use Rattle.settings.specs.Asked.{iwd_answered, iwd_servers_after, service_answered, service_servers_after}
use Rattle.joins.specs.Joins.{zero_record, iwd_record, iwd_record_servers, service_record, service_record_servers}
use Rattle.rules.specs.Answering.{refused_at}

-- ---- the statement

-- by those that read an iwd file
pub record IwdRefuses (name file : List ℕ) (r : Refusal) (l : ℕ) : Type 0 where
  pub settings : iwd_answered name file ≡ record { answer = refused_at r l; settings = zero_iwd_settings }
  pub servers : (old : List (List ℕ)) → iwd_servers_after name file old ≡ old
  pub join_record : iwd_record name file ≡ record { answer = refused_at r l; «record» = zero_record }
  pub record_servers : (old : List (List ℕ)) → iwd_record_servers name file old ≡ old

-- and by those that read a service of a ConnMan file, whatever the number w
pub record ServiceRefuses (name file : List ℕ) (w : ℕ) (r : Refusal) (l : ℕ) : Type 0 where
  pub settings : service_answered name file w ≡ record { answer = refused_at r l; settings = zero_service_settings }
  pub servers : (old : List (List ℕ)) → service_servers_after name file w old ≡ old
  pub join_record : service_record name file w ≡ record { answer = refused_at r l; «record» = zero_record }
  pub record_servers : (old : List (List ℕ)) → service_record_servers name file w old ≡ old

-- ---- it holds

pub refused_iwd : (name file : List ℕ) {r : Refusal} {l : ℕ} → reading D.Iwd name file ≡ refused_at r l →
    IwdRefuses name file r l
unfolding iwd_record iwd_record_servers
refused_iwd name file e =
    record { settings = rw (e, ← iwd_absent_zero); servers = λ old. rw e; join_record = rw e; record_servers = λ old. rw e }

pub refused_service : (name file : List ℕ) {r : Refusal} {l : ℕ} → reading D.ConnMan name file ≡ refused_at r l →
    (w : ℕ) → ServiceRefuses name file w r l
unfolding service_record service_record_servers
refused_service name file e w =
    record { settings = rw (e, ← service_absent_zero); servers = λ old. rw e; join_record = rw e; record_servers = λ old. rw e }
