-- A MAC, a key and a network name in hex are printable, since hex digits and colons are.
use Rattle.std.specs.Prelude.{ℕ, List}
use Rattle.text.specs.Printable.{Printable}
use Rattle.hex_digits.specs.Printable.{digit_printable, hex_printable}
use Rattle.hex_values.specs.HexValueRules.{ColonPairs, last, next, MacIs, PreSharedKeyIs, SsidIs}

pairs_printable : {s t : List ℕ} → ColonPairs s t → Printable s
pairs_printable (last h) = rw (digit_printable h.first, digit_printable h.second)
pairs_printable (next h k) = rw (digit_printable h.first, digit_printable h.second) (pairs_printable k)

pub mac_printable : {v bytes : List ℕ} → MacIs v bytes → Printable v
mac_printable h = pairs_printable h.pairs

pub pre_shared_key_printable : {v bytes : List ℕ} → PreSharedKeyIs v bytes → Printable v
pre_shared_key_printable h = hex_printable h.digits

pub ssid_printable : {v bytes : List ℕ} → SsidIs v bytes → Printable v
ssid_printable h = hex_printable h.digits
