-- A plain name is written as it stands, any other as `=` and its hex (`then`).
use mathlib.Core.Path.{ap}
use native.Mathlib.Omega.{arith}
use lib.ListN.{length}
use Rattle.put.specs.Laws.{then}
use Rattle.names.proofs.Naming.{stem_plain, stem_hex}
use Rattle.names.proofs.put_stem.Goals as goal

pub put_text-requires : goal.put_text-requires
put_text-requires c = omega (arith, ap length (stem_plain c.args.name.now c.all_of.ensures c.if-all_of.true))

pub returns-then-all_of : goal.returns-then-all_of
returns-then-all_of c = rw (stem_plain c.args.name.now c.all_of.ensures c.if-all_of.true) c.put_text.ensures

pub put_byte-behind-requires : goal.put_byte-behind-requires
put_byte-behind-requires c = omega (arith, ap length (stem_hex c.args.name.now c.all_of.ensures c.if-all_of.false))

pub put_hex-requires : goal.put_hex-requires
put_hex-requires c = omega (arith, ap length (stem_hex c.args.name.now c.all_of.ensures c.if-all_of.false), c.put_byte-behind.ensures.next, c.put_byte-behind.ensures.long)

pub returns : goal.returns
returns c = rw (stem_hex c.args.name.now c.all_of.ensures c.if-all_of.false) (then c.put_byte-behind.ensures c.put_hex.ensures)
