-- The three demands hold: the theorems whose types `Demands` gives.
use Rattle.std.specs.Prelude.{ℕ, ◌≡◌, refl, List, Option, None, Ok, Err}
use Rattle.std.proofs.Common.{arith, ap, sym, ◌∙◌}
use Rattle.text.specs.Words.{word}
use Rattle.text.specs.declared.Dialect.{Dialect}
use Rattle.text.specs.declared.Dialect.TheVariants.{Iwd, ConnMan}
use Rattle.names.specs.Names.{network_of}
use Rattle.rules.specs.Sections.{Entry, entry_of, entries_in}
use Rattle.rules.specs.Numbers.{number_of, seen_of, answer_number, answer_line}
use Rattle.rules.specs.Reading.{sections_of, reading}
use Rattle.rules.specs.Asking.{iwd_entry, service_at, asked, asked_of}
use Rattle.rules.proofs.Exactly.{every_input_answered, one_answer, answers_exactly}
use Rattle.rules.proofs.GivenValues.{group_gives, service_gives}
use Rattle.rules.specs.declared.Refusal.{Refusal}
use Rattle.settings.specs.Settings.{iwd_settings, service_settings}
use Rattle.settings.specs.GivenHolds.{iwd_settings_given, service_settings_given}
use Rattle.settings.specs.Asked.{iwd_answer_of, iwd_servers_of, service_answer_of, service_servers_of}
use Rattle.lookups.specs.Lookups.{lookup_of}
use Rattle.records.specs.Record.{joined}
use Rattle.records.specs.Laws.{joined_good}
use Rattle.written.specs.Written.{name_text, file_text}
use Rattle.writer.specs.Writing.{Writing, writes, refuses, writing, written_answer}
use Rattle.writer.specs.Room.{roomy}
use Rattle.joins.specs.Joins as J
use Rattle.joins.specs.Security.{key_needed, psk_needs_key, none_needs_no_key}
use Rattle.joins.specs.SaturdayHolds.{faulty_refused}
use Rattle.joins.specs.Joins.{iwd_join, network_name, or_no_place, no_record, service_join, service_setting, Joined, zero_record, iwd_joined, service_joined, iwd_record, iwd_record_servers, service_record, service_record_servers, record_answer, servers_after}
use Rattle.round_trip.specs.RoundTrip.{written_accepted}
use Rattle.round_trip.specs.Structs.{writing_record, writing_servers}
use Rattle.mover.proofs.GoodMoves.{good_key_kept}
use Rattle.mover.specs.Moves.{moved_if_good, moving_of, moving}
use Rattle.mover.proofs.Theorem as M
use Rattle.demands.specs.Demands
use Rattle.demands.proofs.TableHolds.{settings_answer, service_answer_lem}
use Rattle.rules.specs.Answering.{Answer, Reading, refused_at}

-- ---- demand 1; `TableHolds` has `demand_1_table`

good_not : {r : Refusal} {l : ℕ} → ◌≡◌ {A = Answer} (Ok tt) (refused_at r l) → ⊥
good_not e = let z : ◌≡◌ {A = ℕ} 0 1 = cc in omega (arith, z)

unwritten : (w : Writing) (n f : List ℕ) {r : Refusal} {l : ℕ} → (written_answer w).answer ≡ refused_at r l →
    Demands.Unwritten w n f r l
unwritten (writes a b) n f e = absurd (good_not e)
unwritten (refuses q m) n f e =
    record { answer = ap (λ (a : Answer). record { answer = a; name_len = 0; file_len = 0 }) e; name = refl; file = refl }

looked : (a : Answer) (o : Option Entry) {r : Refusal} {l : ℕ} → (lookup_of a o).answer ≡ refused_at r l →
    lookup_of a o ≡ record { answer = refused_at r l; setting = None }
looked (Ok u) o e = absurd (good_not e)
looked (Err f) o e = ap (λ (a : Answer). record { answer = a; setting = None }) e

unjoined : (j : Joined) (s : List (List ℕ)) {r : Refusal} {l : ℕ} → (record_answer j).answer ≡ refused_at r l →
    (record_answer j ≡ record { answer = refused_at r l; «record» = zero_record }) × (servers_after j s ≡ s)
unjoined (J.joined i) s e = absurd (good_not e)
unjoined (J.refused q m) s e = (ap (λ (a : Answer). record { answer = a; «record» = zero_record }) e, refl)

pub demand_1_refusal : Demands.Demand1Refusal
unfolding iwd_record iwd_record_servers service_record service_record_servers
demand_1_refusal (Demands.check d name file) r l e = go (reading d name file) e
  where
    go : (x : Reading) → asked x ≡ refused_at r l →
        seen_of x ≡ record { number = number_of r; line = l; settings = 0; services = 0 }
    go (Ok c) q = absurd (good_not q)
    go (Err f) q =
        ap (λ (a : Answer). record { number = answer_number a; line = answer_line a; settings = 0; services = 0 }) q
demand_1_refusal (Demands.iwd_settings_lem name file s) r l e = go (asked (reading Iwd name file)) e
  where
    go : (a : Answer) → (iwd_answer_of a (sections_of Iwd file)).answer ≡ refused_at r l →
        (iwd_answer_of a (sections_of Iwd file) ≡ record { answer = refused_at r l; settings = iwd_settings (λ g k. None) }) × (iwd_servers_of a (sections_of Iwd file) s ≡ s)
    go (Ok u) q = absurd (good_not q)
    go (Err f) q = (ap (λ (a : Answer). record { answer = a; settings = iwd_settings (λ g k. None) }) q, refl)
demand_1_refusal (Demands.service_settings_lem name file w s) r l e =
    go (asked_of w (reading ConnMan name file)) (service_at w (sections_of ConnMan file)) e
  where
    go : (a : Answer) (es : List Entry) → (service_answer_of a es).answer ≡ refused_at r l →
        (service_answer_of a es ≡ record { answer = refused_at r l; settings = service_settings (λ k. None) }) × (service_servers_of a es s ≡ s)
    go (Ok u) es q = absurd (good_not q)
    go (Err f) es q = (ap (λ (a : Answer). record { answer = a; settings = service_settings (λ k. None) }) q, refl)
demand_1_refusal (Demands.iwd_string group key name file) r l e =
    looked (asked (reading Iwd name file)) (entry_of key (entries_in group (sections_of Iwd file))) e
demand_1_refusal (Demands.global_string key name file) r l e =
    looked (asked (reading ConnMan name file)) (entry_of key (entries_in (word "global") (sections_of ConnMan file))) e
demand_1_refusal (Demands.service_string w key name file) r l e =
    looked (asked_of w (reading ConnMan name file)) (entry_of key (service_at w (sections_of ConnMan file))) e
demand_1_refusal (Demands.iwd_record_lem name file s) r l e = unjoined (iwd_joined name file) s e
demand_1_refusal (Demands.service_record_lem name file w s) r l e = unjoined (service_joined name file w) s e
demand_1_refusal (Demands.write q s n f) r l e = unwritten (writing q s n f) n f e
demand_1_refusal (Demands.move name file w n f) r l e = unwritten (moving name file w n f) n f e

-- ---- demand 2

pub demand_2_acceptance : Demands.Demand2Acceptance
demand_2_acceptance d name file =
    record {
      exactly = answers_exactly d name file;
      answer = every_input_answered d name file;
      one = one_answer d name file;
    }

pub demand_2_group_values : Demands.Demand2GroupValues
demand_2_group_values d name file n m e group g q key = group_gives d name file e group q key

pub demand_2_service_values : Demands.Demand2ServiceValues
demand_2_service_values name file n m e w key = service_gives name file e w key

pub demand_2_iwd_fields : Demands.Demand2IwdFields
demand_2_iwd_fields name file e =
    iwd_settings_given name file (sym (settings_answer (asked (reading Iwd name file)) (sections_of Iwd file)) ∙ e)

pub demand_2_service_fields : Demands.Demand2ServiceFields
demand_2_service_fields name file w e =
    service_settings_given name file w (sym (service_answer_lem (asked_of w (reading ConnMan name file)) (service_at w (sections_of ConnMan file))) ∙ e)

pub demand_2_round_trip : Demands.Demand2RoundTrip
unfolding writing
demand_2_round_trip r s n f w =
    record {
      name = name_text (joined r s);
      file = file_text (joined r s);
      written = is;
      count = _;
      accepted = written_accepted (joined r s) (joined_good w.arrays w.formed_is) w.placed;
      struct = writing_record r s w.arrays n f is;
      servers = writing_servers r s w.arrays n f is;
    }
  where
    is : writing r s n f ≡ writes (name_text (joined r s)) (file_text (joined r s))
    is = rw (w.formed_is, w.placed) (roomy (joined r s) n f w.name_room w.file_room_lem)

-- ---- demand 3

pub demand_3 : Demands.Demand3
demand_3 name file w n f x y a m = M.demand_3 m.movable m.writes

pub demand_3_record : Demands.Demand3Record
demand_3_record name file w n f x y a m =
    record { struct = M.record_kept m.movable m.writes; servers = M.servers_kept m.movable m.writes }

pub demand_3_key : Demands.Demand3Key
demand_3_key name file w n f x y a h e = good_key_kept name file w n f h e

-- ---- that Saturday

-- the refusal of a file is the answer of every call that reads it
all_refuse : (name file : List ℕ) {d : Dialect} {r : Refusal} {l : ℕ} → reading d name file ≡ refused_at r l →
    (c : Demands.Call) → Demands.ReadingCall name file d c → Demands.answer_of c ≡ refused_at r l
unfolding iwd_record service_record moving
all_refuse name file e c (Demands.by_check d) = ap asked e
all_refuse name file e c (Demands.by_iwd_settings s) =
    ap (λ (q : Reading). (iwd_answer_of (asked q) (sections_of Iwd file)).answer) e
all_refuse name file e c (Demands.by_service_settings w s) =
    ap (λ (q : Reading). (service_answer_of (asked_of w q) (service_at w (sections_of ConnMan file))).answer) e
all_refuse name file e c (Demands.by_iwd_string group key) =
    ap (λ (q : Reading). (lookup_of (asked q) (entry_of key (entries_in group (sections_of Iwd file)))).answer) e
all_refuse name file e c (Demands.by_global_string key) =
    ap (λ (q : Reading). (lookup_of (asked q) (entry_of key (entries_in (word "global") (sections_of ConnMan file)))).answer) e
all_refuse name file e c (Demands.by_service_string w key) =
    ap (λ (q : Reading). (lookup_of (asked_of w q) (entry_of key (service_at w (sections_of ConnMan file)))).answer) e
all_refuse name file e c (Demands.by_iwd_record s) =
    ap (λ (q : Reading). (record_answer (J.joined_if_good (asked q) (J.joined (iwd_join (network_name (network_of name)) (iwd_entry (sections_of Iwd file)))))).answer) e
all_refuse name file e c (Demands.by_service_record w s) =
    ap (λ (q : Reading). (record_answer (J.joined_if_good (asked_of w q) (or_no_place (no_record (service_setting w file)) (service_join (service_setting w file))))).answer) e
all_refuse name file e c (Demands.by_move w n f) =
    ap (λ (q : Reading). (written_answer (moved_if_good (asked_of w q) (moving_of (service_setting w file) n f))).answer) e

pub saturday_holds : Demands.Saturday
saturday_holds d name file n p =
    let h = faulty_refused d name file p in
    record {
      refusal = h.refusal;
      line = h.line;
      early = h.early;
      answers = all_refuse name file h.is;
      zeros = λ c u. demand_1_refusal c h.refusal h.line (all_refuse name file h.is c u);
    }

pub security : Demands.Security
security name file w j a =
    record {
      psk = λ e l q. psk_needs_key name file w a l q;
      open_network = λ e l q. none_needs_no_key name file w a l q;
      absent = λ l. key_needed name file w a;
    }
