-- The bytes where the digits are good, none otherwise.
use Rattle.hex_values.proofs.Pairs.{key_fits, key_good}
use borrow.Author.Rules.{rules}
use Rattle.hex_values.proofs.read_pre_shared_key.Goals as goal

pub unhexed-requires : goal.unhexed-requires
unhexed-requires c = (search rules, key_fits _ c.is_pre_shared_key.ensures c.if-is_pre_shared_key.true)

pub returns-then-is_pre_shared_key : goal.returns-then-is_pre_shared_key
returns-then-is_pre_shared_key c = key_good _ c.is_pre_shared_key.ensures c.if-is_pre_shared_key.true c.unhexed.ensures
