-- The demands of the exported functions, of their calls as `Calls` defines them. Here stand only definitions and the
-- types of the theorems; `ExportsHold`, `SuccessHolds`, `PlacesHold` and `RoomHolds` have the proofs.
use Rattle.std.specs.Prelude.{ℕ, ◌+◌, ◌≤◌, ◌<◌, ◌≡◌, true, ◌↔◌, List, [], ◌∷◌, length, take, drop, get_or, replicate, None}
use Rattle.text.specs.Parts.{part, lines}
use Rattle.text.specs.Words.{word}
use Rattle.text.specs.Options.{or_empty}
use Rattle.text.specs.declared.Dialect.TheVariants.{Iwd, ConnMan}
use Rattle.entry_lists.specs.EntryLists.{entries}
use Rattle.rules.specs.AnswerRows.{AnswerRow, bare, placed, has_row, own_rows}
use Rattle.rules.specs.Asking.{read_as}
use Rattle.lookups.specs.Lookups.{Lookup, iwd_lookup, global_lookup, service_lookup, setting_value}
use Rattle.records.specs.Record.{joined}
use Rattle.records.specs.Formed.{formed}
use Rattle.written.specs.Written.{has_place, name_text, file_text}
use Rattle.writer.specs.Writing.{Ample}
use Rattle.joins.specs.Joins.{no_record, service_setting}
use Rattle.mover.specs.Demand.{Service, Movable}
use Rattle.record_layout.specs.Records.{CArrays, known, record_in, servers_in}
use Rattle.record_layout.specs.declared.CRecord.{CRecord}
use Rattle.boundary.specs.Answers.{Left}
use Rattle.boundary.specs.declared.CReading.{CReading}
use Rattle.boundary.specs.declared.CText.{CText}
use Rattle.boundary.specs.declared.CWritten.{CWritten}
use Rattle.boundary.specs.declared.CRecordAnswer.{CRecordAnswer}
use Rattle.boundary.specs.declared.CEntries.{CEntries}
use Rattle.boundary.specs.declared.CIwdSettings.{CIwdSettings}
use Rattle.boundary.specs.declared.CServiceSettings.{CServiceSettings}
use Rattle.demands.specs.Calls
use Rattle.demands.specs.Zeros.{zero_reading, zero_text, zero_iwd, zero_service, zero_answer, zero_written}
use Rattle.demands.specs.Demands.{ObeysTheRules, service_refusals, service_rows, service_record_rows, writer_rows, move_rows}

-- ==== the calls, and the parts of an answer

-- a call of an exported function with all that it is given, what the lent buffers hold included
pub data Call : Type 0 where
  check_iwd_lem : List ℕ → List ℕ → Call
  check_connman_lem : List ℕ → List ℕ → Call
  iwd_settings_of_lem : List ℕ → List ℕ → Call
  service_settings_of_lem : List ℕ → List ℕ → ℕ → Call
  iwd_passphrase_lem : List ℕ → List ℕ → Call
  iwd_domain_name_lem : List ℕ → List ℕ → Call
  global_name_lem : List ℕ → List ℕ → Call
  global_description_lem : List ℕ → List ℕ → Call
  service_name_lem : List ℕ → List ℕ → ℕ → Call
  service_passphrase_lem : List ℕ → List ℕ → ℕ → Call
  service_domain_lem : List ℕ → List ℕ → ℕ → Call
  iwd_record_lem : List ℕ → List ℕ → Call
  service_record_lem : List ℕ → List ℕ → ℕ → Call
  write_iwd_lem : CRecord → List ℕ → List ℕ → Call
  move_service_lem : List ℕ → List ℕ → ℕ → List ℕ → List ℕ → Call

-- an answer is one of six structs
pub data Answered : Type 0 where
  reads : CReading → Answered
  says : CText → Answered
  iwd_settings_lem : CIwdSettings → Answered
  service_settings_lem : CServiceSettings → Answered
  joins : CRecordAnswer → Answered
  wrote : CWritten → Answered

abbrev pub export_answer : Call → Answered
export_answer (check_iwd_lem name file) = reads (Calls.check_iwd name file)
export_answer (check_connman_lem name file) = reads (Calls.check_connman name file)
export_answer (iwd_settings_of_lem name file) = iwd_settings_lem (Calls.iwd_settings_of name file)
export_answer (service_settings_of_lem name file w) = service_settings_lem (Calls.service_settings_of name file w)
export_answer (iwd_passphrase_lem name file) = says (Calls.iwd_passphrase name file)
export_answer (iwd_domain_name_lem name file) = says (Calls.iwd_domain_name name file)
export_answer (global_name_lem name file) = says (Calls.global_name name file)
export_answer (global_description_lem name file) = says (Calls.global_description name file)
export_answer (service_name_lem name file w) = says (Calls.service_name name file w)
export_answer (service_passphrase_lem name file w) = says (Calls.service_passphrase name file w)
export_answer (service_domain_lem name file w) = says (Calls.service_domain name file w)
export_answer (iwd_record_lem name file) = joins (Calls.iwd_record_of name file)
export_answer (service_record_lem name file w) = joins (Calls.service_record_of name file w)
export_answer (write_iwd_lem c n f) = wrote (Calls.write_iwd c n f).answer
export_answer (move_service_lem name file w n f) = wrote (Calls.move_service name file w n f).answer

abbrev pub export_number : Answered → ℕ
export_number (reads a) = a.number
export_number (says a) = a.number
export_number (iwd_settings_lem a) = a.number
export_number (service_settings_lem a) = a.number
export_number (joins a) = a.number
export_number (wrote a) = a.number

abbrev pub export_line : Answered → ℕ
export_line (reads a) = a.line
export_line (says a) = a.line
export_line (iwd_settings_lem a) = a.line
export_line (service_settings_lem a) = a.line
export_line (joins a) = a.line
export_line (wrote a) = a.line

-- the buffers that a call is lent, and what they hold after it
abbrev pub lent : Call → List (List ℕ)
lent (write_iwd_lem c n f) = n ∷ f ∷ []
lent (move_service_lem name file w n f) = n ∷ f ∷ []
lent (check_iwd_lem name file) = []
lent (check_connman_lem name file) = []
lent (iwd_settings_of_lem name file) = []
lent (service_settings_of_lem name file w) = []
lent (iwd_passphrase_lem name file) = []
lent (iwd_domain_name_lem name file) = []
lent (global_name_lem name file) = []
lent (global_description_lem name file) = []
lent (service_name_lem name file w) = []
lent (service_passphrase_lem name file w) = []
lent (service_domain_lem name file w) = []
lent (iwd_record_lem name file) = []
lent (service_record_lem name file w) = []

abbrev pub left : Call → List (List ℕ)
left (write_iwd_lem c n f) = (Calls.write_iwd c n f).name ∷ (Calls.write_iwd c n f).file ∷ []
left (move_service_lem name file w n f) =
    (Calls.move_service name file w n f).name ∷ (Calls.move_service name file w n f).file ∷ []
left (check_iwd_lem name file) = []
left (check_connman_lem name file) = []
left (iwd_settings_of_lem name file) = []
left (service_settings_of_lem name file w) = []
left (iwd_passphrase_lem name file) = []
left (iwd_domain_name_lem name file) = []
left (global_name_lem name file) = []
left (global_description_lem name file) = []
left (service_name_lem name file w) = []
left (service_passphrase_lem name file w) = []
left (service_domain_lem name file w) = []
left (iwd_record_lem name file) = []
left (service_record_lem name file w) = []

-- ==== demand 1: "each entry point ends with an answer from document 01's table"

-- the rows that a function can answer with; of a string that is found the line is its setting's
abbrev pub export_rows : Call → List AnswerRow
export_rows (check_iwd_lem name file) = bare 0 ∷ own_rows Iwd
export_rows (check_connman_lem name file) = bare 0 ∷ own_rows ConnMan
export_rows (iwd_settings_of_lem name file) = bare 0 ∷ own_rows Iwd
export_rows (service_settings_of_lem name file w) = service_rows
export_rows (iwd_passphrase_lem name file) = placed 0 ∷ own_rows Iwd
export_rows (iwd_domain_name_lem name file) = placed 0 ∷ own_rows Iwd
export_rows (global_name_lem name file) = placed 0 ∷ own_rows ConnMan
export_rows (global_description_lem name file) = placed 0 ∷ own_rows ConnMan
export_rows (service_name_lem name file w) = placed 0 ∷ service_refusals
export_rows (service_passphrase_lem name file w) = placed 0 ∷ service_refusals
export_rows (service_domain_lem name file w) = placed 0 ∷ service_refusals
export_rows (iwd_record_lem name file) = bare 0 ∷ own_rows Iwd
export_rows (service_record_lem name file w) = service_record_rows
export_rows (write_iwd_lem c n f) = writer_rows
export_rows (move_service_lem name file w n f) = move_rows

-- how many lines the file has that is handed in
abbrev pub line_count : Call → ℕ
line_count (check_iwd_lem name file) = length (lines file)
line_count (check_connman_lem name file) = length (lines file)
line_count (iwd_settings_of_lem name file) = length (lines file)
line_count (service_settings_of_lem name file w) = length (lines file)
line_count (iwd_passphrase_lem name file) = length (lines file)
line_count (iwd_domain_name_lem name file) = length (lines file)
line_count (global_name_lem name file) = length (lines file)
line_count (global_description_lem name file) = length (lines file)
line_count (service_name_lem name file w) = length (lines file)
line_count (service_passphrase_lem name file w) = length (lines file)
line_count (service_domain_lem name file w) = length (lines file)
line_count (iwd_record_lem name file) = length (lines file)
line_count (service_record_lem name file w) = length (lines file)
line_count (write_iwd_lem c n f) = 0
line_count (move_service_lem name file w n f) = length (lines file)

abbrev pub ExportedTable : Type 0
ExportedTable = (c : Call) → has_row (line_count c) (export_rows c) (export_number (export_answer c)) (export_line (export_answer c)) ≡ true

-- a record that is brought in, whose codes are known, that is well formed and that iwd has a place for, and buffers
-- with room
pub record WritableBytes (c : CRecord) (n f : List ℕ) : Type 0 where
  pub codes : known c ≡ true
  pub formed_is : formed (record_in c) (servers_in c) ≡ true
  pub placed : has_place (joined (record_in c) (servers_in c)) ≡ true
  pub name_room : length (name_text (joined (record_in c) (servers_in c))) ≤ length n
  pub file_room_lem : length (file_text (joined (record_in c) (servers_in c))) ≤ length f

-- a service that has a join record
pub record Joinable (name file : List ℕ) (w : ℕ) : Type 0 where
  pub service : Service name file w
  pub wireless : no_record (service_setting w file) ≡ None

-- what a call asks for is there
abbrev pub Success : Call → Type 0
Success (check_iwd_lem name file) = ObeysTheRules Iwd name file
Success (check_connman_lem name file) = ObeysTheRules ConnMan name file
Success (iwd_settings_of_lem name file) = ObeysTheRules Iwd name file
Success (service_settings_of_lem name file w) = Service name file w
Success (iwd_passphrase_lem name file) = ObeysTheRules Iwd name file
Success (iwd_domain_name_lem name file) = ObeysTheRules Iwd name file
Success (global_name_lem name file) = ObeysTheRules ConnMan name file
Success (global_description_lem name file) = ObeysTheRules ConnMan name file
Success (service_name_lem name file w) = Service name file w
Success (service_passphrase_lem name file w) = Service name file w
Success (service_domain_lem name file w) = Service name file w
Success (iwd_record_lem name file) = ObeysTheRules Iwd name file
Success (service_record_lem name file w) = Joinable name file w
Success (write_iwd_lem c n f) = WritableBytes c n f
Success (move_service_lem name file w n f) = Movable name file w n f

-- 0 is given exactly then
abbrev pub ExportedSuccess : Type 0
ExportedSuccess = (c : Call) → Success c ↔ (export_number (export_answer c) ≡ 0)

-- ---- "A refusal gives its number and line, zeros for all else, and changes no byte of any lent buffer"

-- the same number and line, and zero in every other byte
abbrev pub zeroed : Answered → Answered
zeroed (reads a) = reads (zero_reading a.number a.line)
zeroed (says a) = says (zero_text a.number a.line)
zeroed (iwd_settings_lem a) = iwd_settings_lem (zero_iwd a.number a.line)
zeroed (service_settings_lem a) = service_settings_lem (zero_service a.number a.line)
zeroed (joins a) = joins (zero_answer a.number a.line)
zeroed (wrote a) = wrote (zero_written a.number a.line)

pub record Unchanged (c : Call) : Type 0 where
  pub zeros : export_answer c ≡ zeroed (export_answer c)
  pub buffers : left c ≡ lent c

abbrev pub ExportedRefusal : Type 0
ExportedRefusal = (c : Call) → 0 < export_number (export_answer c) → Unchanged c

-- ==== "handed back as the stretch of the lent file where it stands"

-- the place that is answered lies in the file, and the value of the setting stands there
pub record StringStands (file : List ℕ) (k : Lookup) (t : CText) : Type 0 where
  pub within : t.start + t.length ≤ length file
  pub value : part t.start (t.start + t.length) file ≡ setting_value k.setting

pub record Strings (name file : List ℕ) (w : ℕ) : Type 0 where
  pub iwd_passphrase_lem :
      StringStands file (iwd_lookup (word "Security") (word "Passphrase") name file) (Calls.iwd_passphrase name file)
  pub iwd_domain_name_lem :
      StringStands file (iwd_lookup (word "IPv4") (word "DomainName") name file) (Calls.iwd_domain_name name file)
  pub global_name_lem : StringStands file (global_lookup (word "Name") name file) (Calls.global_name name file)
  pub global_description_lem :
      StringStands file (global_lookup (word "Description") name file) (Calls.global_description name file)
  pub service_name_lem : StringStands file (service_lookup w (word "Name") name file) (Calls.service_name name file w)
  pub service_passphrase_lem :
      StringStands file (service_lookup w (word "Passphrase") name file) (Calls.service_passphrase name file w)
  pub service_domain_lem : StringStands file (service_lookup w (word "Domain") name file) (Calls.service_domain name file w)

abbrev pub ExportedStrings : Type 0
ExportedStrings = (name file : List ℕ) (w : ℕ) → Strings name file w

-- entry i of a list lies in the file, and stands there
pub record EntryAt (file : List ℕ) (es : List (List ℕ)) (c : CEntries) (i : ℕ) : Type 0 where
  pub within : get_or c.start i 0 + get_or c.length i 0 ≤ length file
  pub value : part (get_or c.start i 0) (get_or c.start i 0 + get_or c.length i 0) file ≡ get_or es i []

pub record ListStands (file : List ℕ) (es : List (List ℕ)) (c : CEntries) : Type 0 where
  pub count : c.count ≡ length es
  pub each : (i : ℕ) → i < length es → EntryAt file es c i

-- the entries of a list of service w
abbrev pub entries_of : List ℕ → ℕ → List ℕ → List (List ℕ)
entries_of file w key = or_empty (read_as entries (service_setting w file key))

pub record Lists (file : List ℕ) (w : ℕ) (a : CServiceSettings) : Type 0 where
  pub search_domains_lem : ListStands file (entries_of file w (word "SearchDomains")) a.addresses.search_domains
  pub timeservers : ListStands file (entries_of file w (word "Timeservers")) a.addresses.timeservers

abbrev pub ExportedLists : Type 0
ExportedLists =
    (name file : List ℕ) (w : ℕ)
    → (Calls.service_settings_of name file w).number ≡ 0
    → Lists file w (Calls.service_settings_of name file w)

-- ==== demands 2 and 3, of what is left in the buffers

-- the new bytes of each, "as many as the answer counts"
abbrev pub new_name : Left → List ℕ
new_name k = take k.answer.name_len k.name

abbrev pub new_file : Left → List ℕ
new_file k = take k.answer.file_len k.file

-- "the new bytes first and its old bytes after them": of buffers that held n and f
pub record OldBehind (k : Left) (n f : List ℕ) : Type 0 where
  pub name : drop k.answer.name_len k.name ≡ drop k.answer.name_len n
  pub file : drop k.answer.file_len k.file ≡ drop k.answer.file_len f

-- "A well-formed record that iwd has a place for, written with room, reads back as itself.": the record c that is
-- brought in, byte for byte; `CArrays` is what the types say of its arrays
pub record BytesReadBack (c : CRecord) (n f : List ℕ) (k : Left) : Type 0 where
  pub back :
      Calls.iwd_record_of (new_name k) (new_file k) ≡ record { line = 0; number = 0; «record» = c; reserved = replicate 7 0 }
  pub behind : OldBehind k n f

abbrev pub ExportedWrite : Type 0
ExportedWrite =
    (c : CRecord) (n f : List ℕ)
    → CArrays c
    → (Calls.write_iwd c n f).answer.number ≡ 0
    → BytesReadBack c n f (Calls.write_iwd c n f)

-- "what it writes is accepted, and its join record equals the service's in every part": the two answers are one, byte
-- for byte. "No service that needs a key becomes one that needs none."
pub record MovesOver (name file : List ℕ) (w : ℕ) (n f : List ℕ) (k : Left) : Type 0 where
  pub accepted : (Calls.check_iwd (new_name k) (new_file k)).number ≡ 0
  pub joined : (Calls.service_record_of name file w).number ≡ 0
  pub same : Calls.iwd_record_of (new_name k) (new_file k) ≡ Calls.service_record_of name file w
  pub key :
      0 < (Calls.service_record_of name file w).«record».credential
      → 0 < (Calls.iwd_record_of (new_name k) (new_file k)).«record».credential
  pub behind : OldBehind k n f

-- that the move answers 0 for a movable service is `ExportedSuccess`
abbrev pub ExportedMove : Type 0
ExportedMove =
    (name file : List ℕ) (w : ℕ) (n f : List ℕ)
    → (Calls.move_service name file w n f).answer.number ≡ 0
    → MovesOver name file w n f (Calls.move_service name file w n f)

-- ==== 2026-01: "Buffers of those sizes then never meet refusal 17."

abbrev pub ExportedRoomWrite : Type 0
ExportedRoomWrite =
    (c : CRecord) (n f : List ℕ)
    → CArrays c
    → Ample n f
    → (Calls.write_iwd c n f).answer.number ≡ 17
    → ⊥

abbrev pub ExportedRoomMove : Type 0
ExportedRoomMove =
    (name file : List ℕ) (w : ℕ) (n f : List ℕ)
    → Ample n f
    → (Calls.move_service name file w n f).answer.number ≡ 17
    → ⊥
