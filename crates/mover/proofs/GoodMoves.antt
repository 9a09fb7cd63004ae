-- "No service that needs a key becomes one that needs none", of every move that answers 0, with nothing else supposed of
-- the file, the service and the buffers.
use Rattle.std.specs.Prelude.{ℕ, ◌≡◌, refl, List, take, Ok}
use Rattle.text.specs.declared.Dialect.TheVariants as D
use Rattle.rules.specs.Reading.{reading}
use Rattle.records.specs.Record.{Join}
use Rattle.writer.specs.Writing.{Writes}
use Rattle.writer.specs.declared.Written.{Written}
use Rattle.joins.specs.Joins.{joined, needs_key, service_joined, iwd_joined}
use Rattle.mover.specs.Moves.{moving}
use Rattle.mover.specs.Demand.{Moved}
use Rattle.mover.proofs.Theorem.{demand_3}
use Rattle.mover.proofs.Order.{good_movable}
use Rattle.rules.specs.Answering.{accepted_with}

-- the service has a record; what is written, the new bytes of the buffers x and y, is accepted and has a record; and
-- the two are the same
pub record KeyKept (name file : List ℕ) (w : ℕ) (x y : List ℕ) (a : Written) : Type 0 where
  pub service_join_lem : Join
  pub service : service_joined name file w ≡ joined service_join_lem
  pub settings : ℕ
  pub accepted : reading D.Iwd (take a.name_len x) (take a.file_len y) ≡ accepted_with settings 0
  pub written_join : Join
  pub written : iwd_joined (take a.name_len x) (take a.file_len y) ≡ joined written_join
  pub same_record_lem : written_join ≡ service_join_lem
  pub same_need : needs_key written_join ≡ needs_key service_join_lem

module _ (name file : List ℕ) (w : ℕ) (n f : List ℕ) {x y : List ℕ} {a : Written} (h : Writes (moving name file w n f) n f x y a) (e : a.answer ≡ Ok tt) where
  pub good_moved : Moved name file w x y a
  good_moved = demand_3 (good_movable name file w n f h e) h

  pub good_key_kept : KeyKept name file w x y a
  good_key_kept =
      let d = good_moved in
      record {
        service_join_lem = d.join;
        service = d.service;
        settings = d.count;
        accepted = d.accepted;
        written_join = d.join;
        written = d.written;
        same_record_lem = refl;
        same_need = refl;
      }
