-- Blocks that reach the end of the text, or meet there, cover the rest of it (`scan_within`).
use native.Mathlib.Omega.{arith}
use Rattle.text.specs.Bytes.{between}
use Rattle.text.proofs.ScanLaws.{scan_on, scan_last}
use borrow.Author.Rules.{rules}
use Rattle.text.proofs.scan.tail_printable.Goals as goal

pub returns-then-n-ge-BLOCK : goal.returns-then-n-ge-BLOCK
returns-then-n-ge-BLOCK c = λ e. scan_last (c.holds.ensures (between 32 126) (λ x r l h. search rules) e) (omega (arith, c.if-n-ge-BLOCK.true)) (omega (arith, c.requires)) c.requires.0

pub returns-then-holds : goal.returns-then-holds
returns-then-holds c =
    λ e.
    let first = c.holds-2.ensures (between 32 126) (λ x r l h. search rules) c.if-holds.true in
    let last = c.holds-then-holds.ensures (between 32 126) (λ x r l h. search rules) e in
    scan_on first (scan_last last (omega (arith, c.if-n-i-lt-HALF.false)) (omega (arith, c.requires)) (omega (arith, c.if-n-i-lt-HALF.false)))
