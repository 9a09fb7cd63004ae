-- One comparison after the other gives the key's place, by the laws of `counting`.
use Rattle.rules.specs.Tables.{keys_of}
use Rattle.tables.proofs.Counted.{counting}
use Rattle.tables.proofs.keys.settings_place.Goals as goal

pub returns : goal.returns
unfolding keys_of
returns c = search counting depth 10
