-- The three demands, and what was asked after them: the words of the person who asked, and under them what is proved. Here
-- stand only definitions and the types of the theorems, over the definitions that the contracts of the entry points cite;
-- `DemandsHold` and `RoomHolds` have the proofs, and `Exports` says the demands of the exported functions.
use Rattle.std.specs.Prelude.{ℕ, ◌-◌, ◌≤◌, ◌<◌, ◌≡◌, true, false, List, [], ◌∷◌, ◌++◌, ◌↔◌, length, take, None, Some, Ok}
use Rattle.text.specs.Parts.{lines}
use Rattle.text.specs.Words.{word}
use Rattle.text.specs.declared.Dialect.{Dialect}
use Rattle.text.specs.declared.Dialect.TheVariants.{Iwd, ConnMan}
use Rattle.rules.specs.AnswerRows.{AnswerRow, bare, lined, has_row, own_rows}
use Rattle.rules.specs.Tables.{group_of, kind_of}
use Rattle.rules.specs.Sections.{Entry, given}
use Rattle.rules.specs.Numbers.{number_of, seen_of, answer_number, answer_line}
use Rattle.rules.specs.Reading.{sections_of, reading}
use Rattle.rules.specs.Asking.{iwd_entry, service_at, asked}
use Rattle.rules.specs.FileRules.{AcceptedFile, Answers}
use Rattle.rules.specs.ListedValues.{value_of}
use Rattle.rules.proofs.GivenValues.{Gives, service_entry}
use Rattle.rules.specs.declared.Group.{Group}
use Rattle.rules.specs.declared.Group.TheVariants.{Service}
use Rattle.rules.specs.declared.Refusal.{Refusal}
use Rattle.settings.specs.Settings.{iwd_settings, service_settings}
use Rattle.settings.specs.Given.{IwdGiven, ServiceGiven}
use Rattle.settings.specs.Asked.{iwd_answered, iwd_servers_after, service_answered, service_servers_after}
use Rattle.lookups.specs.Lookups.{iwd_lookup, global_lookup, service_lookup}
use Rattle.names.specs.Names.{name_max}
use Rattle.records.specs.Record.{Join, joined, laid, laid_servers}
use Rattle.records.specs.Formed.{Arrays, formed}
use Rattle.records.specs.declared.JoinRecord.{JoinRecord}
use Rattle.written.specs.Written.{has_place, name_text, file_text}
use Rattle.written.specs.GreatestLengths.{file_max}
use Rattle.written.specs.Largest.{largest_file, largest_name, Takes}
use Rattle.writer.specs.Writing.{Writing, writes, Ample, writing, written_answer, name_after, file_after, Writes}
use Rattle.writer.specs.declared.Written.{Written}
use Rattle.joins.specs.Joins as J
use Rattle.joins.specs.Joins.{zero_record, service_joined, iwd_record, iwd_record_servers, service_record, service_record_servers, needs_key, service_setting}
use Rattle.joins.specs.Saturday.{FaultyPassphrase}
use Rattle.mover.specs.Moves.{moving}
use Rattle.mover.specs.Demand.{Movable, Moved}
use Rattle.mover.proofs.GoodMoves.{KeyKept}
use Rattle.rules.specs.Answering.{Answer, Reading, accepted_with, refused_at}

-- ==== 1. "Whatever bytes, name, service number, record or buffers come in, each entry point ends with an answer from
-- document 01's table. A refusal gives its number and line, zeros for all else, and changes no byte of any lent buffer."
-- Buffers are lists of bytes, whatever they held before.

-- a call of an entry point with all that it is given, what lent arrays and buffers hold included; a string is asked for
-- by its group and key (`is_well_formed` answers yes or no)
pub data Call : Type 0 where
  check : Dialect → List ℕ → List ℕ → Call
  iwd_settings_lem : List ℕ → List ℕ → List (List ℕ) → Call
  service_settings_lem : List ℕ → List ℕ → ℕ → List (List ℕ) → Call
  iwd_string : List ℕ → List ℕ → List ℕ → List ℕ → Call
  global_string : List ℕ → List ℕ → List ℕ → Call
  service_string : ℕ → List ℕ → List ℕ → List ℕ → Call
  iwd_record_lem : List ℕ → List ℕ → List (List ℕ) → Call
  service_record_lem : List ℕ → List ℕ → ℕ → List (List ℕ) → Call
  write : JoinRecord → List (List ℕ) → List ℕ → List ℕ → Call
  move : List ℕ → List ℕ → ℕ → List ℕ → List ℕ → Call

abbrev pub answer_of : Call → Answer
answer_of (check d name file) = asked (reading d name file)
answer_of (iwd_settings_lem name file s) = (iwd_answered name file).answer
answer_of (service_settings_lem name file w s) = (service_answered name file w).answer
answer_of (iwd_string group key name file) = (iwd_lookup group key name file).answer
answer_of (global_string key name file) = (global_lookup key name file).answer
answer_of (service_string w key name file) = (service_lookup w key name file).answer
answer_of (iwd_record_lem name file s) = (iwd_record name file).answer
answer_of (service_record_lem name file w s) = (service_record name file w).answer
answer_of (write r s n f) = (written_answer (writing r s n f)).answer
answer_of (move name file w n f) = (written_answer (moving name file w n f)).answer

-- the rows of the table that a call can be answered with: "0 accepted"; the file's own; 18, "service number is 0 or
-- above the count"; 16, with its line, of a service; "The writer asks 19, 16, 17."
abbrev pub service_refusals : List AnswerRow
service_refusals = own_rows ConnMan ++ (bare 18 ∷ [])

abbrev pub service_rows : List AnswerRow
service_rows = bare 0 ∷ service_refusals

abbrev pub service_record_rows : List AnswerRow
service_record_rows = service_rows ++ (lined 16 ∷ [])

abbrev pub writer_rows : List AnswerRow
writer_rows = bare 0 ∷ bare 19 ∷ bare 16 ∷ bare 17 ∷ []

abbrev pub move_rows : List AnswerRow
move_rows = service_record_rows ++ (bare 17 ∷ [])

abbrev pub call_rows : Call → List AnswerRow
call_rows (check d name file) = bare 0 ∷ own_rows d
call_rows (iwd_settings_lem name file s) = bare 0 ∷ own_rows Iwd
call_rows (service_settings_lem name file w s) = service_rows
call_rows (iwd_string group key name file) = bare 0 ∷ own_rows Iwd
call_rows (global_string key name file) = bare 0 ∷ own_rows ConnMan
call_rows (service_string w key name file) = service_rows
call_rows (iwd_record_lem name file s) = bare 0 ∷ own_rows Iwd
call_rows (service_record_lem name file w s) = service_record_rows
call_rows (write r s n f) = writer_rows
call_rows (move name file w n f) = move_rows

-- how many lines the file has that is handed in
abbrev pub call_lines : Call → ℕ
call_lines (check d name file) = length (lines file)
call_lines (iwd_settings_lem name file s) = length (lines file)
call_lines (service_settings_lem name file w s) = length (lines file)
call_lines (iwd_string group key name file) = length (lines file)
call_lines (global_string key name file) = length (lines file)
call_lines (service_string w key name file) = length (lines file)
call_lines (iwd_record_lem name file s) = length (lines file)
call_lines (service_record_lem name file w s) = length (lines file)
call_lines (write r s n f) = 0
call_lines (move name file w n f) = length (lines file)

-- "an answer from document 01's table": a number that this entry point can give, with line 0 or a line of the file as
-- the table has it
abbrev pub Demand1Table : Type 0
Demand1Table = (c : Call) → has_row (call_lines c) (call_rows c) (answer_number (answer_of c)) (answer_line (answer_of c)) ≡ true

-- a refusal of the writer or the move: its number and line, no new bytes, and both buffers as they were
pub record Unwritten (w : Writing) (n f : List ℕ) (r : Refusal) (l : ℕ) : Type 0 where
  pub answer : written_answer w ≡ record { answer = refused_at r l; name_len = 0; file_len = 0 }
  pub name : name_after w n ≡ n
  pub file : file_after w f ≡ f

-- "A refusal gives its number and line, zeros for all else, and changes no byte of any lent buffer": zero of a setting
-- is that it is absent
abbrev pub Zeroed : Call → Refusal → ℕ → Type 0
Zeroed (check d name file) r l =
    seen_of (reading d name file) ≡ record { number = number_of r; line = l; settings = 0; services = 0 }
Zeroed (iwd_settings_lem name file s) r l =
    (iwd_answered name file ≡ record { answer = refused_at r l; settings = iwd_settings (λ g k. None) })
    × (iwd_servers_after name file s ≡ s)
Zeroed (service_settings_lem name file w s) r l =
    (service_answered name file w ≡ record { answer = refused_at r l; settings = service_settings (λ k. None) })
    × (service_servers_after name file w s ≡ s)
Zeroed (iwd_string group key name file) r l =
    iwd_lookup group key name file ≡ record { answer = refused_at r l; setting = None }
Zeroed (global_string key name file) r l =
    global_lookup key name file ≡ record { answer = refused_at r l; setting = None }
Zeroed (service_string w key name file) r l =
    service_lookup w key name file ≡ record { answer = refused_at r l; setting = None }
Zeroed (iwd_record_lem name file s) r l =
    (iwd_record name file ≡ record { answer = refused_at r l; «record» = zero_record })
    × (iwd_record_servers name file s ≡ s)
Zeroed (service_record_lem name file w s) r l =
    (service_record name file w ≡ record { answer = refused_at r l; «record» = zero_record })
    × (service_record_servers name file w s ≡ s)
Zeroed (write q s n f) r l = Unwritten (writing q s n f) n f r l
Zeroed (move name file w n f) r l = Unwritten (moving name file w n f) n f r l

abbrev pub Demand1Refusal : Type 0
Demand1Refusal = (c : Call) (r : Refusal) (l : ℕ) → answer_of c ≡ refused_at r l → Zeroed c r l

-- ==== 2. "A file is accepted exactly when every line, and then every group, obeys 01's rules; else the first offending
-- line is named. Accepted settings have the values those rules give. A well-formed record that iwd has a place for,
-- written with room, reads back as itself."

-- `Answers` of rules `FileRules` states 01's rules of the file's own lines, with nothing of the reading in them: accepted
-- with these counts where no line is faulty and then no group, else refused with the number and line of the first fault.
-- The reading gives exactly that answer; every input has one, and no input two.
pub record ReadsByTheRules (d : Dialect) (name file : List ℕ) : Type 0 where
  pub exactly : (r : Reading) → Answers d name file r ↔ (reading d name file ≡ r)
  pub answer : (r : Reading) × Answers d name file r
  pub one : (r q : Reading) → Answers d name file r → Answers d name file q → r ≡ q

abbrev pub Demand2Acceptance : Type 0
Demand2Acceptance = (d : Dialect) (name file : List ℕ) → ReadsByTheRules d name file

-- a file that obeys every rule, whatever its counts
pub record ObeysTheRules (d : Dialect) (name file : List ℕ) : Type 0 where
  pub settings : ℕ
  pub services : ℕ
  pub accepted : AcceptedFile d name file settings services

-- "Accepted settings have the values those rules give": of each group and each service, a key's value is absent exactly
-- where no line gives the key, and else what the rules of the kind that is listed for the key give (`Gives` of rules
-- `GivenValues`); the typed settings, the strings and the join record are made of these values (their definitions)
abbrev pub Demand2GroupValues : Type 0
Demand2GroupValues =
    (d : Dialect) (name file : List ℕ) (n m : ℕ)
    → reading d name file ≡ accepted_with n m
    → (group : List ℕ) (g : Group)
    → group_of d group ≡ Some g
    → (key : List ℕ)
    → Gives d (kind_of g key) (iwd_entry (sections_of d file) group key)
    (value_of g (iwd_entry (sections_of d file) group) key)

abbrev pub Demand2ServiceValues : Type 0
Demand2ServiceValues =
    (name file : List ℕ) (n m : ℕ)
    → reading ConnMan name file ≡ accepted_with n m
    → (w : ℕ) (key : List ℕ)
    → Gives ConnMan (kind_of Service key) (service_entry (sections_of ConnMan file) w key)
    (value_of Service (service_entry (sections_of ConnMan file) w) key)

-- each field of the typed settings is absent exactly where no line of the accepted file gives its key
abbrev pub Demand2IwdFields : Type 0
Demand2IwdFields =
    (name file : List ℕ)
    → (iwd_answered name file).answer ≡ Ok tt
    → IwdGiven (sections_of Iwd file) (iwd_answered name file).settings

abbrev pub Demand2ServiceFields : Type 0
Demand2ServiceFields =
    (name file : List ℕ) (w : ℕ)
    → (service_answered name file w).answer ≡ Ok tt
    → ServiceGiven (service_at w (sections_of ConnMan file)) (service_answered name file w).settings

-- a struct that is formed, with a place in iwd, and buffers with room; `Arrays` is what the struct's types say of its
-- arrays
pub record WritableRecord (r : JoinRecord) (s : List (List ℕ)) (n f : List ℕ) : Type 0 where
  pub arrays : Arrays r s
  pub formed_is : formed r s ≡ true
  pub placed : has_place (joined r s) ≡ true
  pub name_room : length (name_text (joined r s)) ≤ length n
  pub file_room_lem : length (file_text (joined r s)) ≤ length f

-- what is written is accepted, and its record and servers are those that were written, in every place
pub record RecordReadsBack (r : JoinRecord) (s : List (List ℕ)) (n f : List ℕ) : Type 0 where
  pub name : List ℕ
  pub file : List ℕ
  pub written : writing r s n f ≡ writes name file
  pub count : ℕ
  pub accepted : reading Iwd name file ≡ accepted_with count 0
  pub struct : iwd_record name file ≡ record { answer = Ok tt; «record» = r }
  pub servers : (old : List (List ℕ)) → iwd_record_servers name file old ≡ s

abbrev pub Demand2RoundTrip : Type 0
Demand2RoundTrip = (r : JoinRecord) (s : List (List ℕ)) (n f : List ℕ) → WritableRecord r s n f → RecordReadsBack r s n f

-- ==== 3. "For any accepted ConnMan file and any service that holds nothing on 01's list of what iwd has no place for,
-- and any buffers with room, the move answers 0, what it writes is accepted, and its join record equals the service's
-- in every part. No service that needs a key becomes one that needs none."

-- a move of a service that the demand speaks of, which leaves the answer a and buffers that hold x and y; the contract
-- of the move says `Moved` too
pub record Move (name file : List ℕ) (w : ℕ) (n f x y : List ℕ) (a : Written) : Type 0 where
  pub movable : Movable name file w n f
  pub writes : Writes (moving name file w n f) n f x y a

abbrev pub Demand3 : Type 0
Demand3 =
    (name file : List ℕ) (w : ℕ) (n f x y : List ℕ) (a : Written)
    → Move name file w n f x y a
    → Moved name file w x y a

-- "equals the service's in every part": so are the record and the servers that are answered of the two, in every place
pub record SameRecord (name file : List ℕ) (w : ℕ) (x y : List ℕ) (a : Written) : Type 0 where
  pub struct : iwd_record (take a.name_len x) (take a.file_len y) ≡ service_record name file w
  pub servers :
      (old : List (List ℕ))
      → iwd_record_servers (take a.name_len x) (take a.file_len y) old ≡ service_record_servers name file w old

abbrev pub Demand3Record : Type 0
Demand3Record =
    (name file : List ℕ) (w : ℕ) (n f x y : List ℕ) (a : Written)
    → Move name file w n f x y a
    → SameRecord name file w x y a

-- "No service that needs a key becomes one that needs none.": of every move that answers 0, with nothing else supposed
abbrev pub Demand3Key : Type 0
Demand3Key =
    (name file : List ℕ) (w : ℕ) (n f x y : List ℕ) (a : Written)
    → Writes (moving name file w n f) n f x y a
    → a.answer ≡ Ok tt
    → KeyKept name file w x y a

-- ==== 2026-01. "We want it shown that no record the writer accepts ever needs more than 858 bytes for the file and 70 for
-- the name, and that some record reaches each figure. Buffers of those sizes then never meet refusal 17."

-- the figures: `file_max` is what the rows of written `GreatestLengths` come to, a row for each line, "worked out afresh" by request
-- 2026-03 with a static IPv6; `name_max` is names'
abbrev pub RoomFigures : Type 0
RoomFigures = (file_max ≡ 944) × (name_max ≡ 70)

-- no record that is written needs more
pub record WithinRoom (r : JoinRecord) (s : List (List ℕ)) : Type 0 where
  pub file : length (file_text (joined r s)) ≤ file_max
  pub name : length (name_text (joined r s)) ≤ name_max

abbrev pub RoomEnough : Type 0
RoomEnough = (r : JoinRecord) (s : List (List ℕ)) → Arrays r s → formed r s ≡ true → WithinRoom r s

-- `largest_file` and `largest_name` of written `Largest` are well formed and have a place (`Takes`), and reach them; "none
-- reaches both"
abbrev pub RoomReached : Type 0
RoomReached = Takes largest_file (name_max - 1) file_max × Takes largest_name name_max 0

-- the entry points that write never answer 17 into buffers of those sizes, whatever they hold: of any record, and of any
-- bytes, name and service
abbrev pub RoomWrite : Type 0
RoomWrite =
    (r : JoinRecord) (s : List (List ℕ)) (n f : List ℕ)
    → Arrays r s
    → Ample n f
    → answer_number (answer_of (write r s n f)) ≡ 17
    → ⊥

abbrev pub RoomMove : Type 0
RoomMove =
    (name file : List ℕ) (w : ℕ) (n f : List ℕ)
    → Ample n f
    → answer_number (answer_of (move name file w n f)) ≡ 17
    → ⊥

-- with a byte less there is a record that meets it
pub record Room-less (n f : List ℕ) : Type 0 where
  pub file :
      length f < file_max
      → answer_number (answer_of (write (laid largest_file) (laid_servers largest_file) n f)) ≡ 17
  pub name :
      length n < name_max
      → answer_number (answer_of (write (laid largest_name) (laid_servers largest_name) n f)) ≡ 17

-- ==== that Saturday: "A faulty Passphrase line treated as absent, so the service reads as open"

-- the calls that read a file of a dialect under a name
pub data ReadingCall (name file : List ℕ) : Dialect → Call → Type 0 where
  by_check : (d : Dialect) → ReadingCall name file d (check d name file)
  by_iwd_settings : (s : List (List ℕ)) → ReadingCall name file Iwd (iwd_settings_lem name file s)
  by_service_settings : (w : ℕ) (s : List (List ℕ)) → ReadingCall name file ConnMan (service_settings_lem name file w s)
  by_iwd_string : (group key : List ℕ) → ReadingCall name file Iwd (iwd_string group key name file)
  by_global_string : (key : List ℕ) → ReadingCall name file ConnMan (global_string key name file)
  by_service_string : (w : ℕ) (key : List ℕ) → ReadingCall name file ConnMan (service_string w key name file)
  by_iwd_record : (s : List (List ℕ)) → ReadingCall name file Iwd (iwd_record_lem name file s)
  by_service_record : (w : ℕ) (s : List (List ℕ)) → ReadingCall name file ConnMan (service_record_lem name file w s)
  by_move : (w : ℕ) (n f : List ℕ) → ReadingCall name file ConnMan (move name file w n f)

-- a refusal, at line n or before it, that every one of them answers, with zeros for all else and every lent byte as it was
pub record AllRefuse (d : Dialect) (name file : List ℕ) (n : ℕ) : Type 0 where
  pub refusal : Refusal
  pub line : ℕ
  pub early : line ≤ n
  pub answers : (c : Call) → ReadingCall name file d c → answer_of c ≡ refused_at refusal line
  pub zeros : (c : Call) → ReadingCall name file d c → Zeroed c refusal line

-- a file of either kind whose line n, wherever it stands, is a Passphrase line with broken text, a bad escape, or not 8 to 63 bytes once
-- unescaped
abbrev pub Saturday : Type 0
Saturday = (d : Dialect) (name file : List ℕ) (n : ℕ) → FaultyPassphrase d file n → AllRefuse d name file n

-- of a service whose record is answered: `Security = psk` needs a key, `Security = none` needs none, and where no
-- line gives Security it needs one exactly when a line gives Passphrase
pub record SecurityKept (name file : List ℕ) (w : ℕ) (j : Join) : Type 0 where
  pub psk : (e : Entry) → service_setting w file (word "Security") ≡ Some e → e.value ≡ word "psk" → needs_key j ≡ true
  pub open_network : (e : Entry) → service_setting w file (word "Security") ≡ Some e → e.value ≡ word "none" →
      needs_key j ≡ false
  pub absent :
      service_setting w file (word "Security") ≡ None
      → needs_key j ≡ given (word "Passphrase") (service_at w (sections_of ConnMan file))

abbrev pub Security : Type 0
Security = (name file : List ℕ) (w : ℕ) (j : Join) → service_joined name file w ≡ J.joined j → SecurityKept name file w j
