-- Pairs of hex digits are an even number of them (`unhex_pairs`).
use borrow.Author.Tests.{eq-eqb, ne_eqb}
use Rattle.hex_digits.specs.Laws.{unhex_pairs}
use Rattle.hex_digits.proofs.is_hex.Goals as goal

pub returns-then-s-ne0 : goal.returns-then-s-ne0
returns-then-s-ne0 c = rw (unhex_pairs c.args.s.now, ne_eqb _ 0 c.if-s-ne0.true)

pub returns : goal.returns
returns c = rw (unhex_pairs c.args.s.now, eq-eqb _ 0 c.if-s-ne0.false) c.all_of.ensures
