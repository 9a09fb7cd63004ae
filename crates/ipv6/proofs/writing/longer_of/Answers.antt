-- The longer of two runs, by the test.
use native.Mathlib.Omega.{arith}
use borrow.Author.Tests.{le-leb, lt-leb}
use Rattle.ipv6.proofs.writing.longer_of.Goals as goal

pub returns-then-best-n : goal.returns-then-best-n
returns-then-best-n c = let a = c.args in rw (le-leb a.best.len a.n (omega (arith, c.if-best-n.true)))

pub returns-else-best-n : goal.returns-else-best-n
returns-else-best-n c = let a = c.args in rw (lt-leb a.best.len a.n (omega (arith, c.if-best-n.false)))
