-- Demand 3: the move of a service that holds nothing on the list writes a file whose record is the service's.
use Rattle.std.specs.Prelude.{ℕ, ◌≡◌, Bool, true, cond, List, [], length, take, drop, Option, None, Some, Ok}
use Rattle.std.proofs.Math.Path.{ap, sym}
use Rattle.std.proofs.Common.{ap₂, ◌∙◌}
use Rattle.std.proofs.Math.Seq.{take-append_seam}
use Rattle.text.specs.Laws.{inside}
use Rattle.text.specs.Options.{only, or_else}
use Rattle.text.specs.Words.{word}
use Rattle.text.specs.declared.Dialect.TheVariants as D
use Rattle.rules.specs.Asking.{entry_line, asked_of}
use Rattle.rules.specs.Reading.{reading}
use Rattle.rules.specs.declared.Refusal.TheVariants.{NoService}
use Rattle.records.specs.Record.{Join, laid, laid_servers}
use Rattle.records.specs.Formed.{WellFormed}
use Rattle.written.specs.Written.{name_text, file_text, blocks_of, has_place}
use Rattle.writer.specs.Writing.{Writing, writes, writing_of, writing, written_answer, on_front, name_after, file_after, Writes}
use Rattle.writer.specs.Room.{roomy, laid_writing}
use Rattle.writer.specs.declared.Written.{Written}
use Rattle.joins.specs.Joins.{Joined, joined, record_answer, servers_after, iwd_record, iwd_record_servers, service_record, service_record_servers, needs_key, no_record, or_no_place, service_join, service_setting, service_joined, iwd_joined}
use Rattle.joins.specs.Joins as Joins
use Rattle.joins.specs.Answered.{service_formed}
use Rattle.round_trip.specs.Blocks.{row_count}
use Rattle.round_trip.specs.RoundTrip.{written_accepted, round_trip}
use Rattle.mover.specs.Moves.{unplaced, or_unplaced, moved_if_good, moving_of, moving}
use Rattle.mover.specs.Demand.{Service, Movable, Moved}
use Rattle.mover.specs.Earliest.{none_earliest, unplaced_none}
use Rattle.rules.specs.Answering.{Answer, refused_at}

-- ---- a service of an accepted file

module _ {name file : List ℕ} {w : ℕ} (s : Service name file w) where
  service_asked : asked_of w (reading D.ConnMan name file) ≡ Ok tt
  service_asked = ap (asked_of w) s.accepted ∙ ap (λ (b : Bool). cond b (Ok tt) (refused_at NoService 0)) (inside {x = w} 1 s.services s.low s.high)

  -- neither the file's own refusals nor 18
  pub moving_service : (n f : List ℕ) → moving name file w n f ≡ moving_of (service_setting w file) n f
  unfolding moving
  moving_service n f = ap (λ (a : Answer). moved_if_good a (moving_of (service_setting w file) n f)) service_asked

  -- that holds nothing on the list
  module _ (p : unplaced (service_setting w file) ≡ []) where
    placed_record : no_record (service_setting w file) ≡ None
    placed_record =
        let h = unplaced_none (service_setting w file) p in
        ap₂ (λ (a b : Bool). or_else (only a (Some (entry_line (service_setting w file (word "Type"))))) (only b (Some (entry_line (service_setting w file (word "Security")))))) h.wifi h.security

    -- it has a record
    pub move_joined : service_joined name file w ≡ joined (service_join (service_setting w file))
    move_joined = ap₂ (λ (a : Answer) (o : Option ℕ). Joins.joined_if_good a (or_no_place o (service_join (service_setting w file)))) service_asked placed_record

    -- so 19 cannot arise
    pub move_well_formed : WellFormed (service_join (service_setting w file))
    move_well_formed = service_formed name file w move_joined

    -- nor the writer's own 16
    pub move_placed : has_place (service_join (service_setting w file)) ≡ true
    move_placed = let h = unplaced_none (service_setting w file) p in rw h.ipv4 h.ipv6

    move_writing : (n f : List ℕ) → moving name file w n f ≡ writing_of (service_join (service_setting w file)) n f
    move_writing n f = moving_service n f ∙ ap (λ (o : Option ℕ). or_unplaced o (writing_of (service_join (service_setting w file)) n f)) (none_earliest (unplaced (service_setting w file)) p)

    -- the move is what the writer answers of the service's record
    pub move_written : (n f : List ℕ) →
        moving name file w n f ≡ writing (laid (service_join (service_setting w file))) (laid_servers (service_join (service_setting w file))) n f
    move_written n f =
        move_writing n f ∙ sym (laid_writing (service_join (service_setting w file)) n f move_well_formed move_placed)

-- ---- demand 3

-- the new bytes, "as many as the answer counts"
new_bytes : (t old x : List ℕ) (k : ℕ) → x ≡ on_front t old → k ≡ length t → take k x ≡ t
new_bytes t old x k p q = ap₂ (λ (a : ℕ) (b : List ℕ). take a b) q p ∙ take-append_seam t (drop (length t) old)

module _ {name file : List ℕ} {w : ℕ} {n f : List ℕ} (m : Movable name file w n f) where
  pub movable_record : service_joined name file w ≡ joined (service_join (service_setting w file))
  movable_record = move_joined m.service m.placed

  pub movable_writes : moving name file w n f ≡ writes (name_text (service_join (service_setting w file))) (file_text (service_join (service_setting w file)))
  movable_writes = move_writing m.service m.placed n f ∙ roomy (service_join (service_setting w file)) n f m.name_room m.file_room_lem

  pub demand_3 : {x y : List ℕ} {a : Written} → Writes (moving name file w n f) n f x y a → Moved name file w x y a
  demand_3 {x} {y} {a} h =
      let j = service_join (service_setting w file) in
      let good = move_well_formed m.service m.placed in
      let place = move_placed m.service m.placed in
      let q : a ≡ written_answer (writes (name_text j) (file_text j)) = h.answer ∙ ap written_answer movable_writes in
      let b : take a.name_len x ≡ name_text j = new_bytes (name_text j) n x a.name_len (h.name ∙ ap (λ (v : Writing). name_after v n) movable_writes) (ap (λ (v : Written). v.name_len) q) in
      let c : take a.file_len y ≡ file_text j = new_bytes (file_text j) f y a.file_len (h.file ∙ ap (λ (v : Writing). file_after v f) movable_writes) (ap (λ (v : Written). v.file_len) q) in
      record {
        answer = ap (λ (v : Written). v.answer) q;
        count = row_count (blocks_of j);
        accepted = ap₂ (reading D.Iwd) b c ∙ written_accepted j good place;
        join = j;
        service = movable_record;
        written = ap₂ iwd_joined b c ∙ round_trip j good place;
      }

  -- "Two records are equal when they agree in every place, unused ones included": so are the two that are answered, and their servers
  pub record_kept : {x y : List ℕ} {a : Written} → Writes (moving name file w n f) n f x y a →
      iwd_record (take a.name_len x) (take a.file_len y) ≡ service_record name file w
  unfolding iwd_record service_record
  record_kept h = let d = demand_3 h in ap record_answer (d.written ∙ sym d.service)

  pub servers_kept : {x y : List ℕ} {a : Written} → Writes (moving name file w n f) n f x y a →
      (old : List (List ℕ)) →
      iwd_record_servers (take a.name_len x) (take a.file_len y) old ≡ service_record_servers name file w old
  unfolding iwd_record_servers service_record_servers
  servers_kept h old = let d = demand_3 h in ap (λ (v : Joined). servers_after v old) (d.written ∙ sym d.service)

  -- "No service that needs a key becomes one that needs none", nor the other way
  pub key_kept : {x y : List ℕ} {a : Written} → Writes (moving name file w n f) n f x y a → {i j : Join} →
      service_joined name file w ≡ joined i → iwd_joined (take a.name_len x) (take a.file_len y) ≡ joined j →
      needs_key j ≡ needs_key i
  key_kept h {i} {j} p q =
      let d = demand_3 h in
      let e : joined j ≡ joined i = sym q ∙ d.written ∙ sym d.service ∙ p in
      let g : j ≡ i = cc in
      ap needs_key g
