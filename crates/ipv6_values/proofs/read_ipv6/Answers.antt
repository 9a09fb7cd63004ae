-- The two words first, then an address.
use Rattle.std.proofs.Common.{sym, ◌∙◌}
use Rattle.ipv6_values.specs.Ipv6Values.{connman_ipv6}
use Rattle.ipv6_values.proofs.read_ipv6.Goals as goal

pub returns-then-equal : goal.returns-then-equal
unfolding connman_ipv6
returns-then-equal c = rw (sym c.equal.ensures ∙ c.if-equal.true, c.unnumbered.ensures)

pub returns-then-equal-2 : goal.returns-then-equal-2
unfolding connman_ipv6
returns-then-equal-2 c = rw (sym c.equal.ensures ∙ c.if-equal.false, sym c.equal-2.ensures ∙ c.if-equal-2.true, c.unnumbered-then-equal-2.ensures)

pub returns : goal.returns
unfolding connman_ipv6
returns c = rw (sym c.equal.ensures ∙ c.if-equal.false, sym c.equal-2.ensures ∙ c.if-equal-2.false) c.read_parts.ensures
