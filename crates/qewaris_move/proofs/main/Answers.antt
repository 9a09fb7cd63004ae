-- What was moved lies in the buffers, which have room for it (`input_sayable`).
use Rattle.std.proofs.Common.{arith}
use Rattle.qewaris_move.proofs.Answering.{input_sayable}
use Rattle.qewaris_move.proofs.main.Goals as goal

pub say_written-requires : goal.say_written-requires
say_written-requires c =
    input_sayable c.read_input-input.ensures c.move_kept-written.ensures (record { name = omega arith; file = omega arith })
