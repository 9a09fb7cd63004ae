-- The field behind a separator: one law of proofs/Listing for each return.
use Rattle.addresses.proofs.Listing.{next_comma, next_none, next_spaces}
use Rattle.addresses.proofs.lists.next_field.Goals as goal

pub returns-in-Comma : goal.returns-in-Comma
returns-in-Comma c = search next_comma

pub returns-then-next-s : goal.returns-then-next-s
returns-then-next-s c = search next_none

pub returns-else-next-s : goal.returns-else-next-s
returns-else-next-s c = search next_spaces
