-- By whether there is a domain.
use native.Mathlib.Omega.{arith}
use Rattle.escapes.specs.Laws.{escape_length}
use Rattle.rendering.proofs.sizes.domain_len.Goals as goal

pub overflow_add-result : goal.overflow_add-result
overflow_add-result c = omega (arith, escape_length c.args.d.now, c.requires, c.escaped_len.ensures)
