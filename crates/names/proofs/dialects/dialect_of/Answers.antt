-- A short name is iwd's; of a longer one the last seven bytes are compared.
use Rattle.names.proofs.Asking.{dialect_short, dialect_connman, dialect_iwd}
use Rattle.names.proofs.dialects.dialect_of.Goals as goal

pub returns-then-name-lt7 : goal.returns-then-name-lt7
returns-then-name-lt7 c = search dialect_short

pub returns-then-equal : goal.returns-then-equal
returns-then-equal c = search dialect_connman

pub returns : goal.returns
returns c = search dialect_iwd
