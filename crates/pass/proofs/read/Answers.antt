-- The file is too long, its name is no file's, or its lines and its groups decide.
use mathlib.Core.Path.{refl}
use Rattle.pass.proofs.Answers.{reads_large, reads_misnamed, reads_accepted, reads_refused}
use Rattle.pass.proofs.read.Goals as goal

pub returns-then-file-gt-FILE_LIMIT : goal.returns-then-file-gt-FILE_LIMIT
returns-then-file-gt-FILE_LIMIT c = reads_large _ c.if-file-gt-FILE_LIMIT.true c.requires.empty

pub returns-in_default : goal.returns-in_default
returns-in_default c = reads_misnamed _ c.if-file-gt-FILE_LIMIT.false c.kind_of.ensures c.in_default.is c.requires.empty

pub returns-in-Ok : goal.returns-in-Ok
returns-in-Ok c = reads_accepted _ c.if-file-gt-FILE_LIMIT.false c.kind_of.ensures c.in-Some.is c.read_kind-reading.ensures c.in-Ok.is

pub returns-in-Err : goal.returns-in-Err
returns-in-Err c = reads_refused _ c.if-file-gt-FILE_LIMIT.false c.kind_of.ensures c.in-Some.is c.read_kind-reading.ensures c.in-Err.is refl
