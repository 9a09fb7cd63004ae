-- Demand 3: "For any accepted ConnMan file and any service that holds nothing on 01's list of what iwd has no place for, and any buffers with room, the move answers 0, what it writes is accepted, and its join record equals the service's in every part. No service that needs a key becomes one that needs none."
use Rattle.std.specs.Prelude.{ℕ, ◌≤◌, ◌≡◌, List, [], length, take, Ok}
use Rattle.text.specs.declared.Dialect.TheVariants as D
use Rattle.rules.specs.Reading.{reading}
use Rattle.records.specs.Record.{Join}
use Rattle.written.specs.Written.{name_text, file_text}
use Rattle.writer.specs.Writing.{Writes}
use Rattle.writer.specs.declared.Written.{Written}
use Rattle.joins.specs.Joins.{joined, service_join, service_setting, iwd_joined, service_joined}
use Rattle.mover.specs.Moves.{unplaced, moving}
use Rattle.rules.specs.Answering.{accepted_with}

-- service w of an accepted file
pub record Service (name file : List ℕ) (w : ℕ) : Type 0 where
  pub settings : ℕ
  pub services : ℕ
  pub accepted : reading D.ConnMan name file ≡ accepted_with settings services
  pub low : 1 ≤ w
  pub high : w ≤ services

-- that holds nothing on the list, and buffers n and f with room for the name and the file
pub record Movable (name file : List ℕ) (w : ℕ) (n f : List ℕ) : Type 0 where
  pub service : Service name file w
  pub placed : unplaced (service_setting w file) ≡ []
  pub name_room : length (name_text (service_join (service_setting w file))) ≤ length n
  pub file_room_lem : length (file_text (service_join (service_setting w file))) ≤ length f

-- the answer a, and buffers that hold x and y after it: "they are the new bytes there, as many as the answer counts"
pub record Moved (name file : List ℕ) (w : ℕ) (x y : List ℕ) (a : Written) : Type 0 where
  pub answer : a.answer ≡ Ok tt
  pub count : ℕ
  pub accepted : reading D.Iwd (take a.name_len x) (take a.file_len y) ≡ accepted_with count 0
  pub join : Join
  pub service : service_joined name file w ≡ joined join
  pub written : iwd_joined (take a.name_len x) (take a.file_len y) ≡ joined join

-- what the move promises: its answer and its buffers are the definition's, and demand 3
pub record Moves (name file : List ℕ) (w : ℕ) (n f x y : List ℕ) (a : Written) : Type 0 where
  pub is : Writes (moving name file w n f) n f x y a
  pub demand : Movable name file w n f → Moved name file w x y a
