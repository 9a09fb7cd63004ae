-- A separator, and then an address: two writers, one behind the other (`put_behind`).
use Rattle.std.proofs.Common.{length, ap, ◌∙◌, arith, length-set, rules}
use Rattle.addresses.proofs.Putting.{behind_one, put_behind}
use Rattle.addresses.proofs.writing.put_behind.Goals as goal

pub put_address-requires : goal.put_address-requires
put_address-requires c = let a = c.args in simp length-set (omega (arith, c.requires, ap length (behind_one a.sep a.a)))

pub shape_of-out : goal.shape_of-out
shape_of-out c = c.put_address.ensures.long ∙ simp length-set

pub returns : goal.returns
returns c = let a = c.args in put_behind a.sep a.a c.separator_byte.ensures (search rules) c.put_address.ensures
