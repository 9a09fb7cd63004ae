use Rattle.std.proofs.Common.{◌+◌}
use Rattle.text.specs.Bytes.{other}
use Rattle.text.specs.Scans.{Scan}
use Rattle.text.proofs.scan.find_in_block.Given as goal

abbrev pub invariant-loop-j : goal.invariant-loop-j
invariant-loop-j l = Scan (other l.b) l.s l.i (l.i + l.j)
