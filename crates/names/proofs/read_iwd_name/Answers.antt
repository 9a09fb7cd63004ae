-- What is behind the first dot is read as a suffix; what is before it is read as a stem.
use mathlib.Core.Path.{◌∙◌}
use Rattle.names.proofs.Naming.{network_other, network_unnamed, network_named}
use Rattle.names.proofs.read_iwd_name.Goals as goal

pub returns-in_err-suffix : goal.returns-in_err-suffix
returns-in_err-suffix c = c.from_residual.ensures ∙ network_other c.find_near-dot.ensures c.in_err-suffix.ensures

pub returns-in_err-name : goal.returns-in_err-name
returns-in_err-name c = c.from_residual-in_err-name.ensures ∙ network_unnamed c.find_near-dot.ensures c.in_ok-suffix.ensures c.in_err-name.ensures

pub returns : goal.returns
returns c = network_named c.find_near-dot.ensures c.in_ok-suffix.ensures c.in_ok-name.ensures
