-- The stem and then the suffix are written (`then`).
use mathlib.Core.Path.{ap}
use native.Mathlib.Omega.{arith}
use lib.ListN.{length, length-append}
use Rattle.put.specs.Laws.{then}
use Rattle.names.proofs.put_iwd_name.Goals as goal

pub put_stem-behind-requires : goal.put_stem-behind-requires
put_stem-behind-requires c = omega (arith, simp length-append at c.requires.room)

pub put_text-requires : goal.put_text-requires
put_text-requires c = omega (arith, simp length-append at c.requires.room, ap length c.text.ensures, c.put_stem-behind.ensures.next, c.put_stem-behind.ensures.long)

pub returns : goal.returns
returns c = then c.put_stem-behind.ensures (rw c.text.ensures at c.put_text.ensures)
