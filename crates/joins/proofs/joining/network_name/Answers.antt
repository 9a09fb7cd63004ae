-- The network's name, or no bytes.
use Rattle.std.proofs.Common.{sym, ◌∙◌}
use Rattle.joins.proofs.Choosing.{named_network, unnamed_network}
use Rattle.joins.proofs.joining.network_name.Goals as goal

pub returns-in-Some : goal.returns-in-Some
returns-in-Some c = named_network _ (sym c.in-Some.is ∙ c.read_iwd_name.ensures)

pub returns-in-None : goal.returns-in-None
returns-in-None c = unnamed_network _ (sym c.in-None.is ∙ c.read_iwd_name.ensures) c.none.ensures
