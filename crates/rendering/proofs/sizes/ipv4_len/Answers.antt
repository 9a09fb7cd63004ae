-- The header and the three parts of the settings (`group_size`, `ipv4_rows_size`), or nothing where there is no setting.
use native.Mathlib.Omega.{arith}
use lib.ListN.{take}
use lib.Seq.{length-take-le}
use Rattle.written.specs.RecordParts.{numbers_in}
use Rattle.rendering.proofs.Bounds.{numbers_short, servers_short, domain_short}
use borrow.Author.Rules.{rules}
use Rattle.rendering.proofs.sizes.ipv4_len.Goals as goal

pub overflow_add-result : goal.overflow_add-result
overflow_add-result c = omega (arith, numbers_short (numbers_in c.args.i), servers_short (take c.args.count c.args.servers) (rw (length-take-le c.args.count c.args.servers (search rules)) c.requires.most), c.numbers_len-numbers.ensures)

pub overflow_add-result-then-has_ipv4 : goal.overflow_add-result-then-has_ipv4
overflow_add-result-then-has_ipv4 c = omega (arith, numbers_short (numbers_in c.args.i), servers_short (take c.args.count c.args.servers) (rw (length-take-le c.args.count c.args.servers (search rules)) c.requires.most), c.numbers_len-numbers.ensures, c.servers_len-list.ensures)

pub overflow_add-result-then-has_ipv4-2 : goal.overflow_add-result-then-has_ipv4-2
overflow_add-result-then-has_ipv4-2 c = omega (arith, numbers_short (numbers_in c.args.i), servers_short (take c.args.count c.args.servers) (rw (length-take-le c.args.count c.args.servers (search rules)) c.requires.most), domain_short c.args.domain.now c.requires.short, c.numbers_len-numbers.ensures, c.servers_len-list.ensures, c.domain_len.ensures)
