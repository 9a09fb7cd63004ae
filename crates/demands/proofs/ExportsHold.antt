-- The exported functions answer from document 01's table, and a refusal leaves zeros and unchanged buffers: by the cases of
-- what is behind each answer.
use Rattle.std.specs.Prelude.{ℕ, ◌<◌, ◌≡◌, refl, Bool, true, false, cond, List, ◌∷◌, eqb, length, Option, None, Some, Ok, Err}
use Rattle.std.proofs.Common.{arith}
use Rattle.text.specs.Parts.{lines}
use Rattle.text.specs.Words.{word}
use Rattle.text.specs.Laws.{inside, between_high}
use Rattle.text.specs.OptionLaws.{IfSome}
use Rattle.text.specs.declared.Dialect.{Dialect}
use Rattle.text.specs.declared.Dialect.TheVariants.{Iwd, ConnMan}
use Rattle.rules.specs.Sections.{Entry, Section}
use Rattle.rules.specs.Numbers.{number_of}
use Rattle.rules.specs.Reading.{sections_of, reading}
use Rattle.rules.specs.Asking.{iwd_entry, service_at, asked, asked_of}
use Rattle.rules.specs.Tables.{keys_of}
use Rattle.rules.proofs.EntryPlaces.{EntryStands, group_stands, service_stands}
use Rattle.rules.specs.AnswerRows.{AnswerRow, bare, placed, has_row, own_rows}
use Rattle.rules.specs.declared.Refusal.{Refusal}
use Rattle.rules.specs.declared.Refusal.TheVariants as N
use Rattle.settings.specs.Asked.{iwd_answer_of, iwd_servers_of, service_answer_of, service_servers_of}
use Rattle.lookups.specs.Lookups.{Lookup, lookup_of, group_lookup, service_lookup, lookup_place}
use Rattle.joins.specs.Joins as J
use Rattle.joins.specs.Joins.{Joined, service_setting, iwd_joined, service_joined, record_answer, servers_after, iwd_record, iwd_record_servers, service_record, service_record_servers}
use Rattle.writer.specs.Writing.{Writing, writes, refuses, writing, written_answer}
use Rattle.mover.specs.Moves.{moving}
use Rattle.record_layout.specs.Records.{lent_servers, known, record_in, servers_in}
use Rattle.boundary.specs.Answers.{Left, reading_at, text_at, left_of, record_answer_at, writing_in}
use Rattle.boundary.specs.Settings.{iwd_settings_at, service_settings_at}
use Rattle.demands.specs.Demands as D
use Rattle.demands.specs.Demands.{service_refusals, writer_rows}
use Rattle.demands.proofs.TableHolds.{InRows, asked_given, asked_service_given, write_given, demand_1_table}
use Rattle.demands.specs.Exports as E
use Rattle.demands.specs.Exports.{Answered, export_number, reads, says, iwd_settings_lem, service_settings_lem, joins, wrote, zeroed, ExportedTable, ExportedRefusal}
use Rattle.rules.specs.Answering.{Answer, Reading}

-- the number of a refusal is not 0
pub refusal_number : (r : Refusal) → eqb (number_of r) 0 ≡ false
refusal_number N.Size = refl
refusal_number N.FileName = refl
refusal_number N.Unrecognized = refl
refusal_number N.Extension = refl
refusal_number N.BadHeader = refl
refusal_number N.UnknownGroup = refl
refusal_number N.RepeatedGroup = refl
refusal_number N.NoGroup = refl
refusal_number N.UnknownKey = refl
refusal_number N.RepeatedKey = refl
refusal_number N.ValueText = refl
refusal_number N.ValueKind = refl
refusal_number N.ManyServices = refl
refusal_number N.Missing = refl
refusal_number N.Contradiction = refl
refusal_number N.NoPlace = refl
refusal_number N.ShortBuffer = refl
refusal_number N.NoService = refl
refusal_number N.Malformed = refl

-- ---- the table

reading_given : (k : ℕ) (rs : List AnswerRow) (r : Reading) → InRows k rs (asked r) →
    has_row k rs (reading_at r).number (reading_at r).line ≡ true
reading_given k rs (Ok c) h = h
reading_given k rs (Err f) h = h

-- the number and the line of a lookup are those of a row
abbrev TextInRows : List ℕ → List AnswerRow → Lookup → Type 0
TextInRows file rs k =
    has_row (length (lines file)) (placed 0 ∷ rs) (text_at (lookup_place k)).number (text_at (lookup_place k)).line ≡ true

text_given : (file : List ℕ) (rs : List AnswerRow) (a : Answer) (o : Option Entry) →
    InRows (length (lines file)) (bare 0 ∷ rs) a → IfSome (EntryStands file) o → TextInRows file rs (lookup_of a o)
text_given file rs (Ok u) None h e = rw (inside {x = 0} 0 (length (lines file)) (omega arith) (omega arith))
text_given file rs (Ok u) (Some x) h e =
    rw (inside {x = x.line} 0 (length (lines file)) (omega arith) (between_high {x = x.line} 1 (length (lines file)) e.line))
text_given file rs (Err f) o h e = rw (refusal_number f.refusal) (rw (refusal_number f.refusal) at h)

known_given : (b : Bool) (w : Writing) → InRows 0 writer_rows (written_answer w).answer →
    InRows 0 writer_rows (written_answer (cond b w (refuses N.Malformed 0))).answer
known_given true w h = h
known_given false w h = refl

module _ (name file : List ℕ) where
  group_text_given : (d : Dialect) (group key : List ℕ) →
      TextInRows file (own_rows d) (group_lookup d group key name file)
  group_text_given d group key =
      text_given file (own_rows d) (asked (reading d name file)) (iwd_entry (sections_of d file) group key) (asked_given d name file) (group_stands d file group key)

  service_text_given : (w : ℕ) (key : List ℕ) → TextInRows file service_refusals (service_lookup w key name file)
  service_text_given w key =
      text_given file service_refusals (asked_of w (reading ConnMan name file)) (service_setting w file key) (asked_service_given name file w) (service_stands ConnMan file w key)

pub exported_table : ExportedTable
exported_table (E.check_iwd_lem name file) =
    reading_given (length (lines file)) (bare 0 ∷ own_rows Iwd) (reading Iwd name file) (asked_given Iwd name file)
exported_table (E.check_connman_lem name file) =
    reading_given (length (lines file)) (bare 0 ∷ own_rows ConnMan) (reading ConnMan name file) (asked_given ConnMan name file)
exported_table (E.iwd_settings_of_lem name file) = demand_1_table (D.iwd_settings_lem name file lent_servers)
exported_table (E.service_settings_of_lem name file w) = demand_1_table (D.service_settings_lem name file w lent_servers)
exported_table (E.iwd_passphrase_lem name file) = group_text_given name file Iwd (word "Security") (word "Passphrase")
exported_table (E.iwd_domain_name_lem name file) = group_text_given name file Iwd (word "IPv4") (word "DomainName")
exported_table (E.global_name_lem name file) = group_text_given name file ConnMan (word "global") (word "Name")
exported_table (E.global_description_lem name file) =
    group_text_given name file ConnMan (word "global") (word "Description")
exported_table (E.service_name_lem name file w) = service_text_given name file w (word "Name")
exported_table (E.service_passphrase_lem name file w) = service_text_given name file w (word "Passphrase")
exported_table (E.service_domain_lem name file w) = service_text_given name file w (word "Domain")
exported_table (E.iwd_record_lem name file) = demand_1_table (D.iwd_record_lem name file lent_servers)
exported_table (E.service_record_lem name file w) = demand_1_table (D.service_record_lem name file w lent_servers)
exported_table (E.write_iwd_lem c n f) =
    known_given (known c) (writing (record_in c) (servers_in c) n f) (write_given (record_in c) (servers_in c) n f)
exported_table (E.move_service_lem name file w n f) = demand_1_table (D.move name file w n f)

-- ---- refusals; an answer that is good has the number 0

-- a refusal is all zero but for its number and line
abbrev RefusalZero : Answered → Type 0
RefusalZero x = 0 < export_number x → x ≡ zeroed x

reading_zeros : (r : Reading) → RefusalZero (reads (reading_at r))
reading_zeros (Ok c) h = absurd (omega arith)
reading_zeros (Err f) h = refl

text_zeros : (a : Answer) (o : Option Entry) → RefusalZero (says (text_at (lookup_place (lookup_of a o))))
text_zeros (Ok u) o h = absurd (omega arith)
text_zeros (Err f) o h = refl

iwd_zeros : (a : Answer) (gs : List Section) →
    RefusalZero (iwd_settings_lem (iwd_settings_at (iwd_answer_of a gs) (iwd_servers_of a gs lent_servers)))
unfolding keys_of
iwd_zeros (Ok u) gs h = absurd (omega arith)
iwd_zeros (Err f) gs h = refl

service_zeros : (a : Answer) (es : List Entry) →
    RefusalZero (service_settings_lem (service_settings_at (service_answer_of a es) (service_servers_of a es lent_servers)))
unfolding keys_of
service_zeros (Ok u) es h = absurd (omega arith)
service_zeros (Err f) es h = refl

record_zeros : (j : Joined) → RefusalZero (joins (record_answer_at (record_answer j) (servers_after j lent_servers)))
record_zeros (J.joined j) h = absurd (omega arith)
record_zeros (J.refused r l) h = refl

-- what is left of a writing that is refused
record Unwritten (k : Left) (n f : List ℕ) : Type 0 where
  zeros : wrote k.answer ≡ zeroed (wrote k.answer)
  name : k.name ≡ n
  file : k.file ≡ f

unwritten : (w : Writing) (n f : List ℕ) → 0 < (left_of w n f).answer.number → Unwritten (left_of w n f) n f
unwritten (writes a b) n f h = absurd (omega arith)
unwritten (refuses r l) n f h = record { zeros = refl; name = refl; file = refl }

pub exported_refusal : ExportedRefusal
unfolding iwd_record iwd_record_servers service_record service_record_servers
exported_refusal (E.check_iwd_lem name file) h = record { zeros = reading_zeros (reading Iwd name file) h; buffers = refl }
exported_refusal (E.check_connman_lem name file) h =
    record { zeros = reading_zeros (reading ConnMan name file) h; buffers = refl }
exported_refusal (E.iwd_settings_of_lem name file) h =
    record { zeros = iwd_zeros (asked (reading Iwd name file)) (sections_of Iwd file) h; buffers = refl }
exported_refusal (E.service_settings_of_lem name file w) h =
    record { zeros = service_zeros (asked_of w (reading ConnMan name file)) (service_at w (sections_of ConnMan file)) h; buffers = refl }
exported_refusal (E.iwd_passphrase_lem name file) h =
    record { zeros = text_zeros (asked (reading Iwd name file)) (iwd_entry (sections_of Iwd file) (word "Security") (word "Passphrase")) h; buffers = refl }
exported_refusal (E.iwd_domain_name_lem name file) h =
    record { zeros = text_zeros (asked (reading Iwd name file)) (iwd_entry (sections_of Iwd file) (word "IPv4") (word "DomainName")) h; buffers = refl }
exported_refusal (E.global_name_lem name file) h =
    record { zeros = text_zeros (asked (reading ConnMan name file)) (iwd_entry (sections_of ConnMan file) (word "global") (word "Name")) h; buffers = refl }
exported_refusal (E.global_description_lem name file) h =
    record { zeros = text_zeros (asked (reading ConnMan name file)) (iwd_entry (sections_of ConnMan file) (word "global") (word "Description")) h; buffers = refl }
exported_refusal (E.service_name_lem name file w) h =
    record { zeros = text_zeros (asked_of w (reading ConnMan name file)) (service_setting w file (word "Name")) h; buffers = refl }
exported_refusal (E.service_passphrase_lem name file w) h =
    record { zeros = text_zeros (asked_of w (reading ConnMan name file)) (service_setting w file (word "Passphrase")) h; buffers = refl }
exported_refusal (E.service_domain_lem name file w) h =
    record { zeros = text_zeros (asked_of w (reading ConnMan name file)) (service_setting w file (word "Domain")) h; buffers = refl }
exported_refusal (E.iwd_record_lem name file) h = record { zeros = record_zeros (iwd_joined name file) h; buffers = refl }
exported_refusal (E.service_record_lem name file w) h =
    record { zeros = record_zeros (service_joined name file w) h; buffers = refl }
exported_refusal (E.write_iwd_lem c n f) h =
    let u = unwritten (writing_in c n f) n f h in record { zeros = u.zeros; buffers = rw (u.name, u.file) }
exported_refusal (E.move_service_lem name file w n f) h =
    let u = unwritten (moving name file w n f) n f h in record { zeros = u.zeros; buffers = rw (u.name, u.file) }
