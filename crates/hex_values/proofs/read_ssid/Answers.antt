-- The bytes where the digits are good, none otherwise.
use Rattle.hex_values.proofs.Pairs.{ssid_fits, ssid_good}
use borrow.Author.Rules.{rules}
use Rattle.hex_values.proofs.read_ssid.Goals as goal

pub unhexed-requires : goal.unhexed-requires
unhexed-requires c = (search rules, ssid_fits _ c.is_ssid.ensures c.if-is_ssid.true)

pub returns-then-is_ssid : goal.returns-then-is_ssid
returns-then-is_ssid c = ssid_good _ c.is_ssid.ensures c.if-is_ssid.true c.unhexed.ensures
