-- The key's place, and the kind at that place (`at_place_named`).
use Rattle.tables.proofs.KeysFound.{key_listed, key_unlisted}
use borrow.Author.Rules.{rules}
use Rattle.tables.proofs.keys.key_of.Goals as goal

pub returns-in_err-kind : goal.returns-in_err-kind
returns-in_err-kind c = search (rules, key_unlisted c.args.g c.args.key.now c.listed_place-place.ensures c.kind_at.ensures c.in_err-kind.was)

pub returns : goal.returns
returns c = key_listed c.args.g c.args.key.now c.listed_place-place.ensures c.kind_at.ensures c.in_ok-kind.was
