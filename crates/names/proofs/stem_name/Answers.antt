-- A stem behind `=` is left to `hex_name`; any other gives itself where it is plain and not too long.
use Rattle.names.proofs.Naming.{stem_empty, stem_in_hex, stem_long, stem_other, stem_good}
use Rattle.names.proofs.stem_name.Goals as goal

pub returns-then-s-eq0 : goal.returns-then-s-eq0
returns-then-s-eq0 c = search stem_empty

pub returns-then-s-eq61 : goal.returns-then-s-eq61
returns-then-s-eq61 c = search stem_in_hex

pub returns-then-s-gt32 : goal.returns-then-s-gt32
returns-then-s-gt32 c = search stem_long

pub returns-then-not-all_of : goal.returns-then-not-all_of
returns-then-not-all_of c = search stem_other

pub returns : goal.returns
returns c = search stem_good
