-- The run of a class by its columns, which take its bytes (`chosen_member`), or by comparing.
use mathlib.Core.Path.{ap, sym, ◌∙◌}
use Prim.Native.Nat.{ℕ}
use Rattle.text.specs.ByteTable.{chosen}
use Rattle.text.specs.ByteTableLaws.{chosen_member}
use Rattle.text.proofs.ScanLaws.{stop_as}
use borrow.Author.Rules.{rules}
use Rattle.text.proofs.scan.run_end.Goals as goal

pub compared_end-requires : goal.compared_end-requires
compared_end-requires c = record { within = search rules; compared = sym c.columns_of-columns.ensures ∙ c.if-columns-eq0.true }

pub returns-then-columns-eq0 : goal.returns-then-columns-eq0
returns-then-columns-eq0 c = c.compared_end.ensures

pub returns : goal.returns
returns c = stop_as
    (λ x. ap (λ (m : ℕ). chosen m x) c.columns_of-columns.ensures ∙ chosen_member c.args.c (λ e. c.if-columns-eq0.false (c.columns_of-columns.ensures ∙ e)) x)
    c.masked_end.ensures
