-- An address in an array that has room for it (`canonical_short`) ends where it is long.
use mathlib.Core.Path.{◌≡◌, ◌∙◌}
use native.Mathlib.Nat.{zero-add}
use native.Mathlib.Omega.{arith}
use lib.ListN.{length}
use Rattle.ipv6.specs.Written.{canonical_short}
use borrow.Author.Rules.{rules}
use Rattle.ipv6.proofs.writing.address_len.Goals as goal

pub put_address-requires : goal.put_address-requires
put_address-requires c = let a = c.args.a in let h : length a ≡ 16 = search rules in omega (arith, canonical_short a h)

pub returns : goal.returns
returns c = c.put_address.ensures.next ∙ zero-add _
