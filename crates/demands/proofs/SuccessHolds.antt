-- An exported function answers 0 exactly when what is asked for is there; and what the two that write leave is read back.
use Rattle.std.specs.Prelude.{ℕ, ◌<◌, ◌≡◌, refl, Bool, true, false, cond, ◌↔◌, List, length, drop, replicate, Option, None, Some, Ok, Err}
use Rattle.std.proofs.Common.{arith, ap, ap₂, sym, ◌∙◌, subst, true≢false, eq-eqb}
use Rattle.std.proofs.Math.Seq.{take-append_seam, drop-append_seam}
use Rattle.text.specs.Laws.{inside}
use Rattle.text.specs.Words.{word}
use Rattle.text.specs.declared.Dialect.{Dialect}
use Rattle.text.specs.declared.Dialect.TheVariants.{Iwd, ConnMan}
use Rattle.names.specs.Names.{network_of}
use Rattle.rules.specs.Numbers.{number_of, answer_number}
use Rattle.rules.specs.Reading.{sections_of, reading}
use Rattle.rules.specs.Asking.{iwd_entry, service_at, asked, asked_of}
use Rattle.rules.proofs.Exactly.{accepted_exactly}
use Rattle.rules.specs.GoodAnswers.{asked_reading, asked_service}
use Rattle.rules.specs.declared.Refusal.TheVariants.{NoService, Malformed}
use Rattle.lookups.specs.Lookups.{lookup_of}
use Rattle.records.specs.Record.{Join, joined}
use Rattle.records.specs.Formed.{formed}
use Rattle.written.specs.Written.{has_place, name_text, file_text}
use Rattle.writer.specs.Writing.{Writing, writes, refuses, writing, written_answer, name_after, file_after, Writes}
use Rattle.writer.specs.Room.{written_number, roomy, RoomIs, enough, short, room_is, WritingIs, malformed, no_place, placed, writing_is}
use Rattle.joins.specs.Joins as J
use Rattle.joins.specs.Joins.{Joined, no_record, or_no_place, iwd_join, network_name, service_join, service_setting, record_answer, iwd_record, service_record}
use Rattle.round_trip.specs.Structs.{writing_record, writing_servers}
use Rattle.mover.specs.Moves.{moving}
use Rattle.mover.specs.Demand.{Service, Movable}
use Rattle.mover.proofs.Theorem as M
use Rattle.mover.proofs.Order.{good_movable}
use Rattle.record_layout.specs.Records.{lent_servers, known, record_in, servers_in}
use Rattle.record_layout.specs.Laws.{brought_back, brought_arrays}
use Rattle.record_layout.specs.declared.CRecord.{CRecord}
use Rattle.boundary.specs.Answers.{reading_at, left_of, record_answer_at, writing_in}
use Rattle.boundary.specs.declared.CRecordAnswer.{CRecordAnswer}
use Rattle.demands.specs.Calls
use Rattle.demands.specs.Demands.{ObeysTheRules}
use Rattle.demands.proofs.TableHolds.{settings_answer, service_answer_lem, lookup_answer, joined_answer}
use Rattle.demands.specs.Exports as E
use Rattle.demands.specs.Exports.{WritableBytes, Joinable, new_name, new_file, OldBehind, ExportedSuccess, ExportedWrite, ExportedMove}
use Rattle.demands.proofs.ExportsHold.{refusal_number}
use Rattle.rules.specs.Answering.{Answer, Reading, refused_at}

-- ---- 0, and nothing else, is the number of what is good

number_good : (a : Answer) → answer_number a ≡ 0 → a ≡ Ok tt
number_good (Ok u) e = refl
number_good (Err f) e =
    let z : true ≡ false = sym (eq-eqb (number_of f.refusal) 0 e) ∙ refusal_number f.refusal in absurd (true≢false z)

-- said of a number that is another
of_number : {A : Type 0} {n m : ℕ} → n ≡ m → (A ↔ (m ≡ 0)) → A ↔ (n ≡ 0)
of_number e h = (λ a. e ∙ h.0 a, λ z. h.1 (sym e ∙ z))

-- ---- a file, and a service of it

reading_number : (r : Reading) → (reading_at r).number ≡ answer_number (asked r)
reading_number (Ok c) = refl
reading_number (Err f) = refl

file_success : (d : Dialect) (name file : List ℕ) →
    ObeysTheRules d name file ↔ (answer_number (asked (reading d name file)) ≡ 0)
file_success d name file = (
  λ o. ap (λ (r : Reading). answer_number (asked r)) ((accepted_exactly d name file o.settings o.services).1 o.accepted),
  λ e. let h = asked_reading (reading d name file) (number_good (asked (reading d name file)) e) in record { settings = h.0; services = h.1.0; accepted = (accepted_exactly d name file h.0 h.1.0).0 h.1.1 },
)

service_success : (name file : List ℕ) (w : ℕ) →
    Service name file w ↔ (answer_number (asked_of w (reading ConnMan name file)) ≡ 0)
service_success name file w = (there, found)
  where
    there : Service name file w → answer_number (asked_of w (reading ConnMan name file)) ≡ 0
    there s =
        ap (λ (r : Reading). answer_number (asked_of w r)) s.accepted
        ∙ ap (λ (b : Bool). answer_number (cond b (Ok tt) (refused_at NoService 0))) (inside {x = w} 1 s.services s.low s.high)

    found : answer_number (asked_of w (reading ConnMan name file)) ≡ 0 → Service name file w
    found e =
        let s = asked_service w (reading ConnMan name file) (number_good (asked_of w (reading ConnMan name file)) e) in
        record { settings = s.settings; services = s.count; accepted = s.is; low = s.low; high = s.high }

-- ---- its record

record_number : (a : Answer) (o : Option ℕ) (j : Join) →
    answer_number (record_answer (J.joined_if_good a (or_no_place o j))).answer ≡ 0 → (answer_number a ≡ 0) × (o ≡ None)
record_number (Ok u) None j e = (refl, refl)
record_number (Ok u) (Some l) j e = absurd (omega (arith, e))
record_number (Err f) o j e = absurd (true≢false (sym (eq-eqb (number_of f.refusal) 0 e) ∙ refusal_number f.refusal))

record_success : (name file : List ℕ) (w : ℕ) →
    Joinable name file w ↔ (answer_number (service_record name file w).answer ≡ 0)
unfolding service_record
record_success name file w = (there, found)
  where
    there : Joinable name file w → answer_number (record_answer (J.service_joined name file w)).answer ≡ 0
    there j =
        rw (number_good (asked_of w (reading ConnMan name file)) ((service_success name file w).0 j.service), j.wireless)

    found : answer_number (record_answer (J.service_joined name file w)).answer ≡ 0 → Joinable name file w
    found e =
        let h = record_number (asked_of w (reading ConnMan name file)) (no_record (service_setting w file)) (service_join (service_setting w file)) e in
        record { service = (service_success name file w).1 h.0; wireless = h.1 }

-- ---- a record that is brought in

module _ (c : CRecord) (n f : List ℕ) where
  abbrev j : Join
  j = joined (record_in c) (servers_in c)

  brought_writing : WritableBytes c n f → writing (record_in c) (servers_in c) n f ≡ writes (name_text j) (file_text j)
  unfolding writing
  brought_writing w = rw (w.formed_is, w.placed) (roomy j n f w.name_room w.file_room_lem)

  writable_writes : WritableBytes c n f → writing_in c n f ≡ writes (name_text j) (file_text j)
  writable_writes w = rw w.codes (brought_writing w)

  written_writable : answer_number (written_answer (writing_in c n f)).answer ≡ 0 → WritableBytes c n f
  written_writable =
      go (known c) refl (writing (record_in c) (servers_in c) n f) (writing_is (record_in c) (servers_in c) n f)
    where
      roomed : known c ≡ true → formed (record_in c) (servers_in c) ≡ true → has_place j ≡ true → (m : Writing) →
          RoomIs j n f m → written_number m ≡ 0 → WritableBytes c n f
      roomed k g p m (enough x y) e = record { codes = k; formed_is = g; placed = p; name_room = x; file_room_lem = y }
      roomed k g p m short e = absurd (omega (arith, e))

      go : (b : Bool) → known c ≡ b → (m : Writing) → WritingIs (record_in c) (servers_in c) n f m →
          written_number (cond b m (refuses Malformed 0)) ≡ 0 → WritableBytes c n f
      go true k m malformed e = absurd (omega (arith, e))
      go true k m no_place e = absurd (omega (arith, e))
      go true k m (placed g p) e = roomed k g p m (room_is j n f) e
      go false k m i e = absurd (omega (arith, e))

  write_success : WritableBytes c n f ↔ (answer_number (written_answer (writing_in c n f)).answer ≡ 0)
  write_success =
      (λ w. ap (λ (v : Writing). answer_number (written_answer v).answer) (writable_writes w), written_writable)

-- ---- a move

module _ (name file : List ℕ) (w : ℕ) (n f : List ℕ) where
  leaves : Writes (moving name file w n f) n f (name_after (moving name file w n f) n) (file_after (moving name file w n f) f) (written_answer (moving name file w n f))
  leaves = record { answer = refl; name = refl; file = refl }

  move_success : Movable name file w n f ↔ (answer_number (written_answer (moving name file w n f)).answer ≡ 0)
  move_success =
      (λ m. ap (λ (v : Writing). answer_number (written_answer v).answer) (M.movable_writes m), λ e. good_movable name file w n f leaves (number_good (written_answer (moving name file w n f)).answer e))

-- ---- every call

module _ (name file : List ℕ) where
  group_text_success : (d : Dialect) (group key : List ℕ) →
      ObeysTheRules d name file ↔ (answer_number (lookup_of (asked (reading d name file)) (iwd_entry (sections_of d file) group key)).answer ≡ 0)
  group_text_success d group key =
      of_number (ap answer_number (lookup_answer (asked (reading d name file)) (iwd_entry (sections_of d file) group key))) (file_success d name file)

  service_text_success : (w : ℕ) (key : List ℕ) →
      Service name file w ↔ (answer_number (lookup_of (asked_of w (reading ConnMan name file)) (service_setting w file key)).answer ≡ 0)
  service_text_success w key =
      of_number (ap answer_number (lookup_answer (asked_of w (reading ConnMan name file)) (service_setting w file key))) (service_success name file w)

pub exported_success : ExportedSuccess
unfolding iwd_record
exported_success (E.check_iwd_lem name file) =
    of_number (reading_number (reading Iwd name file)) (file_success Iwd name file)
exported_success (E.check_connman_lem name file) =
    of_number (reading_number (reading ConnMan name file)) (file_success ConnMan name file)
exported_success (E.iwd_settings_of_lem name file) =
    of_number (ap answer_number (settings_answer (asked (reading Iwd name file)) (sections_of Iwd file))) (file_success Iwd name file)
exported_success (E.service_settings_of_lem name file w) =
    of_number (ap answer_number (service_answer_lem (asked_of w (reading ConnMan name file)) (service_at w (sections_of ConnMan file)))) (service_success name file w)
exported_success (E.iwd_passphrase_lem name file) = group_text_success name file Iwd (word "Security") (word "Passphrase")
exported_success (E.iwd_domain_name_lem name file) = group_text_success name file Iwd (word "IPv4") (word "DomainName")
exported_success (E.global_name_lem name file) = group_text_success name file ConnMan (word "global") (word "Name")
exported_success (E.global_description_lem name file) =
    group_text_success name file ConnMan (word "global") (word "Description")
exported_success (E.service_name_lem name file w) = service_text_success name file w (word "Name")
exported_success (E.service_passphrase_lem name file w) = service_text_success name file w (word "Passphrase")
exported_success (E.service_domain_lem name file w) = service_text_success name file w (word "Domain")
exported_success (E.iwd_record_lem name file) =
    of_number (ap answer_number (joined_answer (asked (reading Iwd name file)) (iwd_join (network_name (network_of name)) (iwd_entry (sections_of Iwd file))))) (file_success Iwd name file)
exported_success (E.service_record_lem name file w) = record_success name file w
exported_success (E.write_iwd_lem c n f) = write_success c n f
exported_success (E.move_service_lem name file w n f) = move_success name file w n f

-- ---- what is left in the buffers

old_behind : (w : Writing) (n f : List ℕ) → OldBehind (left_of w n f) n f
old_behind (writes a b) n f =
    record { name = drop-append_seam a (drop (length a) n); file = drop-append_seam b (drop (length b) f) }
old_behind (refuses r l) n f = record { name = refl; file = refl }

pub exported_write : ExportedWrite
exported_write c n f arrays e =
    let w = written_writable c n f e in
    let i = joined (record_in c) (servers_in c) in
    let q = writable_writes c n f w in
    let a = brought_arrays c arrays in
    let p : new_name (Calls.write_iwd c n f) ≡ name_text i = ap (λ (v : Writing). new_name (left_of v n f)) q ∙ take-append_seam (name_text i) (drop (length (name_text i)) n) in
    let t : new_file (Calls.write_iwd c n f) ≡ file_text i = ap (λ (v : Writing). new_file (left_of v n f)) q ∙ take-append_seam (file_text i) (drop (length (file_text i)) f) in
    let h = brought_writing c n f w in
    record {
      back =
          ap₂ Calls.iwd_record_of p t
          ∙ ap₂ record_answer_at (writing_record (record_in c) (servers_in c) a n f h) (writing_servers (record_in c) (servers_in c) a n f h lent_servers)
          ∙ ap (λ (r : CRecord). record { line = 0; number = 0; «record» = r; reserved = replicate 7 0 }) (brought_back c w.codes arrays.servers);
      behind = old_behind (writing_in c n f) n f;
    }

pub exported_move : ExportedMove
unfolding service_record
exported_move name file w n f e =
    let m = (move_success name file w n f).1 e in
    let h = leaves name file w n f in
    let same = ap₂ record_answer_at (M.record_kept m h) (M.servers_kept m h lent_servers) in
    record {
      accepted = ap (λ (r : Reading). (reading_at r).number) (M.demand_3 m h).accepted;
      joined = ap (λ (v : Joined). answer_number (record_answer v).answer) (M.movable_record m);
      same = same;
      key = λ k. subst (λ (a : CRecordAnswer). 0 < a.«record».credential) (sym same) k;
      behind = old_behind (moving name file w n f) n f;
    }
