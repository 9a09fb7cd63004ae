-- The four groups' lengths together (`file_size`), each within its bound.
use native.Mathlib.Omega.{arith}
use Rattle.records.specs.Record.{joined}
use Rattle.rendering.proofs.ExactSizes.{file_size}
use Rattle.rendering.proofs.Bounds.{groups_short}
use borrow.Author.Rules.{rules}
use Rattle.rendering.proofs.sizes.file_len.Goals as goal

pub overflow_add-result : goal.overflow_add-result
overflow_add-result c = let b = groups_short c.args.r c.args.servers c.requires (search rules) (search (rules, c.well_formed.0.1.1.1.1.1.1.1.1.1.1.1.1.1.1.1.1.1)) (search (rules, c.well_formed.0.1.1.1.1.1.1.1.1.1.1.1.1.1.1.1.1.1)) in omega (arith, b.settings, b.security, c.settings_len-settings.ensures, c.security_len-security.ensures)

pub overflow_add-result-2 : goal.overflow_add-result-2
overflow_add-result-2 c = let b = groups_short c.args.r c.args.servers c.requires (search rules) (search (rules, c.well_formed.0.1.1.1.1.1.1.1.1.1.1.1.1.1.1.1.1.1)) (search (rules, c.well_formed.0.1.1.1.1.1.1.1.1.1.1.1.1.1.1.1.1.1)) in omega (arith, b.settings, b.security, b.ipv4, c.settings_len-settings.ensures, c.security_len-security.ensures, rw c.numbers-numbers.ensures at c.ipv4_len-ipv4.ensures)

pub overflow_add-result-3 : goal.overflow_add-result-3
overflow_add-result-3 c = let b = groups_short c.args.r c.args.servers c.requires (search rules) (search (rules, c.well_formed.0.1.1.1.1.1.1.1.1.1.1.1.1.1.1.1.1.1)) (search (rules, c.well_formed.0.1.1.1.1.1.1.1.1.1.1.1.1.1.1.1.1.1)) in omega (arith, b.settings, b.security, b.ipv4, b.ipv6, c.settings_len-settings.ensures, c.security_len-security.ensures, rw c.numbers-numbers.ensures at c.ipv4_len-ipv4.ensures, rw c.ipv6_numbers.ensures at c.ipv6_len-ipv6.ensures)

pub returns : goal.returns
returns c = omega (arith, file_size (joined c.args.r c.args.servers), c.settings_len-settings.ensures, c.security_len-security.ensures, rw c.numbers-numbers.ensures at c.ipv4_len-ipv4.ensures, rw c.ipv6_numbers.ensures at c.ipv6_len-ipv6.ensures)
