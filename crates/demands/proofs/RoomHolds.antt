-- How much room a written file can take: the theorems whose types `Demands` and `Exports` give.
use Rattle.std.specs.Prelude.{ℕ, ◌≡◌, Bool, true, false, cond, List}
use Rattle.std.proofs.Common.{arith}
use Rattle.rules.specs.declared.Refusal.TheVariants.{Malformed}
use Rattle.records.specs.Record.{joined}
use Rattle.records.specs.Laws.{joined_good}
use Rattle.written.proofs.LengthLaws.{name_short, file_short, name_max_lem, file_max_lem}
use Rattle.written.proofs.LargestLaws.{largest_file_lem, largest_name_lem}
use Rattle.writer.specs.Writing.{Writing, refuses, writing}
use Rattle.writer.specs.Room.{written_number, writing_never_17, less_name_17, less_file_17}
use Rattle.mover.proofs.Order.{moving_never_17}
use Rattle.record_layout.specs.Records.{known, record_in, servers_in}
use Rattle.record_layout.specs.Laws.{brought_arrays}
use Rattle.demands.specs.Demands.{RoomFigures, RoomEnough, RoomReached, RoomWrite, RoomMove, Room-less}
use Rattle.demands.specs.Exports.{ExportedRoomWrite, ExportedRoomMove}

pub room_figures : RoomFigures
room_figures = (file_max_lem, name_max_lem)

pub room_enough : RoomEnough
room_enough r s a e =
    let w = joined_good a e in record { file = file_short (joined r s) w; name = name_short (joined r s) w }

pub room_reached : RoomReached
room_reached = (largest_file_lem, largest_name_lem)

-- ---- of the entry points

pub room_write : RoomWrite
room_write r s n f a h = writing_never_17 r s n f a h

pub room_move : RoomMove
room_move name file w n f h = moving_never_17 name file w n f h

pub room_less : (n f : List ℕ) → Room-less n f
room_less n f = record { file = less_file_17 largest_file_lem n f; name = less_name_17 largest_name_lem n f }

-- ---- of the exported functions

-- a record with a code that is none's is 19
known_never_17 : (b : Bool) (w : Writing) → (written_number w ≡ 17 → ⊥) →
    written_number (cond b w (refuses Malformed 0)) ≡ 17 → ⊥
known_never_17 true w h e = h e
known_never_17 false w h e = omega (arith, e)

pub exported_room_write : ExportedRoomWrite
exported_room_write c n f a h =
    known_never_17 (known c) (writing (record_in c) (servers_in c) n f)
    (writing_never_17 (record_in c) (servers_in c) n f (brought_arrays c a) h)

pub exported_room_move : ExportedRoomMove
exported_room_move name file w n f h = moving_never_17 name file w n f h
