-- A colon, and then a group (`then`).
use mathlib.Core.Path.{◌∙◌}
use native.Mathlib.Omega.{arith}
use lib.ListN.{length-set}
use Rattle.put.specs.Laws.{then, wrote_byte}
use borrow.Author.Rules.{rules}
use Rattle.ipv6.proofs.writing.put_with_colon.Goals as goal

pub put_group-requires : goal.put_group-requires
put_group-requires c = simp length-set (omega (arith, c.requires))

pub shape_of-out : goal.shape_of-out
shape_of-out c = c.put_group.ensures.long ∙ simp length-set

pub returns : goal.returns
returns c = then (wrote_byte _ _ 58 (search rules)) c.put_group.ensures
