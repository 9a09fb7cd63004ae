-- Which refusals a move gives: 16 exactly where a line of the service is on the list, 19 never, nor 17 into ample buffers;
-- and a move that answers 0 is one that demand 3 speaks of.
use Rattle.std.specs.Prelude.{ℕ, ◌≤◌, ◌≡◌, refl, Bool, true, false, cond, List, [], Option, None, Some, Ok, Err}
use Rattle.std.proofs.Common.{arith, ap, sym, ◌∙◌}
use Rattle.text.specs.Bytes.{between}
use Rattle.text.specs.Laws.{between_low, between_high}
use Rattle.text.specs.declared.Dialect.TheVariants as D
use Rattle.rules.specs.Asking.{asked_of}
use Rattle.rules.specs.Reading.{reading}
use Rattle.rules.proofs.Refusals.{reading_number}
use Rattle.rules.specs.declared.Refusal.{Refusal}
use Rattle.rules.specs.declared.Refusal.TheVariants.{NoPlace, NoService, Malformed}
use Rattle.records.specs.Record.{Join}
use Rattle.writer.specs.Writing.{Writing, refuses, Ample, writing_of, written_answer, Writes}
use Rattle.writer.specs.Room.{written_number, RoomIs, enough, short, room_is, placed_number, ample_writes}
use Rattle.writer.specs.declared.Written.{Written}
use Rattle.joins.specs.Joins.{service_join, service_setting}
use Rattle.mover.specs.Moves.{unplaced, earliest, or_unplaced, moved_if_good, moving_of, moving}
use Rattle.mover.specs.Demand.{Service, Movable}
use Rattle.mover.specs.Earliest.{earliest_none}
use Rattle.mover.proofs.Theorem.{moving_service, move_well_formed}
use Rattle.rules.specs.Answering.{Answer, Reading, accepted_with, refused_at}

-- ---- what a move is, case by case

-- the file's own refusal; 18; 16 at the earliest line on the list; or what the writer answers of the service's record
pub data MoveIs (name file : List ℕ) (w : ℕ) (n f : List ℕ) : Writing → Type 0 where
  file_refused : {r : Refusal} {l : ℕ} → reading D.ConnMan name file ≡ refused_at r l →
      MoveIs name file w n f (refuses r l)
  no_service : MoveIs name file w n f (refuses NoService 0)
  no_place : {l : ℕ} → Service name file w → earliest (unplaced (service_setting w file)) ≡ Some l →
      MoveIs name file w n f (refuses NoPlace l)
  placed : Service name file w → unplaced (service_setting w file) ≡ [] →
      MoveIs name file w n f (writing_of (service_join (service_setting w file)) n f)

pub move_is : (name file : List ℕ) (w : ℕ) (n f : List ℕ) → MoveIs name file w n f (moving name file w n f)
unfolding moving
move_is name file w n f = go (reading D.ConnMan name file) refl
  where
    listed : Service name file w → (o : Option ℕ) → earliest (unplaced (service_setting w file)) ≡ o →
        MoveIs name file w n f (or_unplaced o (writing_of (service_join (service_setting w file)) n f))
    listed s None q = placed s (earliest_none (unplaced (service_setting w file)) q)
    listed s (Some l) q = no_place s q

    service : (k m : ℕ) → reading D.ConnMan name file ≡ accepted_with k m → between 1 m w ≡ true → Service name file w
    service k m q b =
        record { settings = k; services = m; accepted = q; low = between_low {x = w} 1 m b; high = between_high {x = w} 1 m b }

    go : (r : Reading) → reading D.ConnMan name file ≡ r →
        MoveIs name file w n f (moved_if_good (asked_of w r) (moving_of (service_setting w file) n f))
    go (Err f) q = file_refused q
    go (Ok c) q = numbered (between 1 c.services w) refl
      where
        numbered : (b : Bool) → between 1 c.services w ≡ b →
            MoveIs name file w n f (moved_if_good (cond b (Ok tt) (refused_at NoService 0)) (moving_of (service_setting w file) n f))
        numbered true b = listed (service c.settings c.services q b) (earliest (unplaced (service_setting w file))) refl
        numbered false b = no_service

-- ---- 16, 17 and 19

-- of a record that has a place the writer does not answer 16
never_16 : (j : Join) (n f : List ℕ) → written_number (writing_of j n f) ≡ 16 → ⊥
never_16 j n f = placed_number j n f (λ k. k ≡ 16 → ⊥) (λ e. omega (arith, e)) (λ e. omega (arith, e))

module _ {name file : List ℕ} {w : ℕ} (s : Service name file w) (n f : List ℕ) {l : ℕ} where
  pub moving_16 : earliest (unplaced (service_setting w file)) ≡ Some l → moving name file w n f ≡ refuses NoPlace l
  moving_16 e = moving_service s n f ∙ ap (λ (o : Option ℕ). or_unplaced o (writing_of (service_join (service_setting w file)) n f)) e

  pub moving_16_only : moving name file w n f ≡ refuses NoPlace l → earliest (unplaced (service_setting w file)) ≡ Some l
  moving_16_only e = go (earliest (unplaced (service_setting w file))) (sym (moving_service s n f) ∙ e)
    where
      go : (o : Option ℕ) → or_unplaced o (writing_of (service_join (service_setting w file)) n f) ≡ refuses NoPlace l →
          o ≡ Some l
      go None q = absurd (never_16 (service_join (service_setting w file)) n f (ap written_number q))
      go (Some k) q = let g : k ≡ l = cc in ap Some g

-- a move never answers 19, nor, into ample buffers, 17
module _ (name file : List ℕ) (w : ℕ) (n f : List ℕ) where
  never_19 : (m : Writing) → MoveIs name file w n f m → written_number m ≤ 18
  never_19 m (file_refused q) = omega (arith, reading_number D.ConnMan name file q)
  never_19 m no_service = omega arith
  never_19 m (no_place s q) = omega arith
  never_19 m (placed s p) = placed_number (service_join (service_setting w file)) n f (λ k. k ≤ 18) (omega arith) (omega arith)

  pub moving_never_19 : {l : ℕ} → moving name file w n f ≡ refuses Malformed l → ⊥
  moving_never_19 e = omega (arith, never_19 (moving name file w n f) (move_is name file w n f), ap written_number e)

  never_17 : Ample n f → (m : Writing) → MoveIs name file w n f m → written_number m ≡ 17 → ⊥
  never_17 a m (file_refused q) e = omega (arith, reading_number D.ConnMan name file q, e)
  never_17 a m no_service e = omega (arith, e)
  never_17 a m (no_place s q) e = omega (arith, e)
  never_17 a m (placed s p) e =
      omega (arith, ap written_number (sym (ample_writes (service_join (service_setting w file)) n f (move_well_formed s p) a)) ∙ e)

  pub moving_never_17 : Ample n f → written_number (moving name file w n f) ≡ 17 → ⊥
  moving_never_17 a = never_17 a (moving name file w n f) (move_is name file w n f)

-- ---- a move that answers 0 is one that demand 3 speaks of

refused_good : {P : Type 0} {r : Refusal} {l : ℕ} → ◌≡◌ {A = Answer} (refused_at r l) (Ok tt) → P
refused_good e = let z : ◌≡◌ {A = ℕ} 0 1 = cc in absurd (omega arith)

pub good_movable : (name file : List ℕ) (w : ℕ) (n f : List ℕ) {x y : List ℕ} {a : Written} →
    Writes (moving name file w n f) n f x y a → a.answer ≡ Ok tt → Movable name file w n f
good_movable name file w n f {a = a} h e =
    go (moving name file w n f) (move_is name file w n f) (sym (ap (λ (v : Written). v.answer) h.answer) ∙ e)
  where
    roomed : Service name file w → unplaced (service_setting w file) ≡ [] → (m : Writing) →
        RoomIs (service_join (service_setting w file)) n f m → (written_answer m).answer ≡ Ok tt → Movable name file w n f
    roomed s p m (enough a b) e = record { service = s; placed = p; name_room = a; file_room_lem = b }
    roomed s p m short e = refused_good e

    go : (m : Writing) → MoveIs name file w n f m → (written_answer m).answer ≡ Ok tt → Movable name file w n f
    go m (file_refused q) e = refused_good e
    go m no_service e = refused_good e
    go m (no_place s q) e = refused_good e
    go m (placed s p) e = roomed s p m (room_is (service_join (service_setting w file)) n f) e
