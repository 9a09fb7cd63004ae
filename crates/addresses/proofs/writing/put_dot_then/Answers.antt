-- A dot, and then a number: two writers, one behind the other (`then`).
use Rattle.std.proofs.Common.{◌∙◌, arith, length-set, rules}
use Rattle.put.specs.Laws.{then, wrote_byte}
use Rattle.addresses.proofs.writing.put_dot_then.Goals as goal

pub put_decimal-requires : goal.put_decimal-requires
put_decimal-requires c = simp length-set (omega (arith, c.requires))

pub shape_of-out : goal.shape_of-out
shape_of-out c = c.put_decimal.ensures.long ∙ simp length-set

pub returns : goal.returns
returns c = then (wrote_byte _ _ 46 (search rules)) c.put_decimal.ensures
