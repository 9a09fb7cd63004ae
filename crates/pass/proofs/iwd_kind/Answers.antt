-- The name is good, or it is not.
use Rattle.std.proofs.Common.{◌∙◌}
use Rattle.pass.proofs.NameKinds.{iwd_good, iwd_bad}
use Rattle.pass.proofs.iwd_kind.Goals as goal

pub returns : goal.returns
returns c = iwd_good c.args.name.now c.read_iwd_name.ensures c.in_ok-network.was
