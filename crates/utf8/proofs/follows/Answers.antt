-- What follows a first byte: each row of the table by one computed test.
use native.Mathlib.Omega.{arith}
use Rattle.utf8.proofs.Turns.{row}
use Rattle.utf8.proofs.follows.Goals as goal

pub returns-then-b-le127 : goal.returns-then-b-le127
returns-then-b-le127 c = row 0 (omega arith) (omega arith)

pub returns-then-b-le193 : goal.returns-then-b-le193
returns-then-b-le193 c = row 1 (omega arith) (omega arith)

pub returns-then-b-le223 : goal.returns-then-b-le223
returns-then-b-le223 c = row 2 (omega arith) (omega arith)

pub returns-then-b-le224 : goal.returns-then-b-le224
returns-then-b-le224 c = row 3 (omega arith) (omega arith)

pub returns-then-b-le236 : goal.returns-then-b-le236
returns-then-b-le236 c = row 4 (omega arith) (omega arith)

pub returns-then-b-le237 : goal.returns-then-b-le237
returns-then-b-le237 c = row 5 (omega arith) (omega arith)

pub returns-then-b-le239 : goal.returns-then-b-le239
returns-then-b-le239 c = row 6 (omega arith) (omega arith)

pub returns-then-b-le240 : goal.returns-then-b-le240
returns-then-b-le240 c = row 7 (omega arith) (omega arith)

pub returns-then-b-le243 : goal.returns-then-b-le243
returns-then-b-le243 c = row 8 (omega arith) (omega arith)

pub returns-then-b-le244 : goal.returns-then-b-le244
returns-then-b-le244 c = row 9 (omega arith) (omega arith)

pub returns-else-b-le244 : goal.returns-else-b-le244
returns-else-b-le244 c = row 10 (omega arith) (omega arith)
