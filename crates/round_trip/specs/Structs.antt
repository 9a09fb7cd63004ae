-- The round trip of a struct and its servers: what the writer writes of them reads back as that struct and those servers.
use Rattle.std.specs.Prelude.{ℕ, ◌≡◌, true, List, Ok}
use Rattle.std.proofs.Common.{arith, ap, ap₂, sym, ◌∙◌}
use Rattle.rules.specs.declared.Refusal.{Refusal}
use Rattle.records.specs.Record.{joined}
use Rattle.records.specs.Formed.{formed, Arrays}
use Rattle.records.specs.Laws.{joined_good, laid_joined, laid_joined_servers}
use Rattle.records.specs.declared.JoinRecord.{JoinRecord}
use Rattle.written.specs.Written.{name_text, file_text, has_place}
use Rattle.writer.specs.Writing.{Writing, writes, refuses, writing}
use Rattle.writer.specs.Room.{RoomIs, enough, short, room_is, WritingIs, malformed, no_place, placed, writing_is}
use Rattle.joins.specs.Joins.{iwd_record, iwd_record_servers}
use Rattle.round_trip.specs.RoundTrip.{round_trip_record, round_trip_servers}

-- what is written: the struct is formed, its record has a place in iwd, and its name and file are a and b
record WrittenFrom (r : JoinRecord) (s : List (List ℕ)) (a b : List ℕ) : Type 0 where
  good : formed r s ≡ true
  placed : has_place (joined r s) ≡ true
  name : name_text (joined r s) ≡ a
  file : file_text (joined r s) ≡ b

refused_writes : {P : Type 0} {r : Refusal} {l : ℕ} {a b : List ℕ} → refuses r l ≡ writes a b → P
refused_writes e = let z : ◌≡◌ {A = ℕ} 0 1 = cc in absurd (omega arith)

written_from : (r : JoinRecord) (s : List (List ℕ)) (n f : List ℕ) {a b : List ℕ} → writing r s n f ≡ writes a b →
    WrittenFrom r s a b
written_from r s n f {a} {b} e = go (writing r s n f) (writing_is r s n f) e
  where
    roomed : formed r s ≡ true → has_place (joined r s) ≡ true → (m : Writing) → RoomIs (joined r s) n f m →
        m ≡ writes a b → WrittenFrom r s a b
    roomed p q m (enough x y) k = record { good = p; placed = q; name = cc; file = cc }
    roomed p q m short k = refused_writes k

    go : (m : Writing) → WritingIs r s n f m → m ≡ writes a b → WrittenFrom r s a b
    go m malformed k = refused_writes k
    go m no_place k = refused_writes k
    go m (placed p q) k = roomed p q m (room_is (joined r s) n f) k

module _ (r : JoinRecord) (s : List (List ℕ)) (t : Arrays r s) (n f : List ℕ) {a b : List ℕ} (e : writing r s n f ≡ writes a b) where
  pub writing_record : iwd_record a b ≡ record { answer = Ok tt; «record» = r }
  writing_record =
      let w = written_from r s n f e in
      sym (ap₂ iwd_record w.name w.file) ∙ round_trip_record (joined r s) (joined_good t w.good) w.placed ∙ ap (λ (x : JoinRecord). record { answer = Ok tt; «record» = x }) (laid_joined t w.good)

  pub writing_servers : (old : List (List ℕ)) → iwd_record_servers a b old ≡ s
  writing_servers old =
      let w = written_from r s n f e in
      sym (ap₂ (λ (x y : List ℕ). iwd_record_servers x y old) w.name w.file) ∙ round_trip_servers (joined r s) (joined_good t w.good) w.placed old ∙ laid_joined_servers t w.good
