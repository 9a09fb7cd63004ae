-- A name with no letter or digit in front is refused; otherwise what is behind them is compared.
use Rattle.names.proofs.Naming.{connman_empty, connman_rest}
use Rattle.names.proofs.is_connman_name.Goals as goal

pub returns-then-end-eq0 : goal.returns-then-end-eq0
returns-then-end-eq0 c = search connman_empty

pub returns : goal.returns
returns c = search connman_rest
