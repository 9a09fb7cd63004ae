-- A faulty line, or the end of the file.
use Rattle.std.proofs.lemmas.Result.{err_from_is_err_and}
use Rattle.pass.proofs.Answers.{kind_stopped, kind_through, walked_few}
use Rattle.pass.proofs.read_kind.Goals as goal

pub ending-requires : goal.ending-requires
ending-requires c = walked_few c.walk.ensures c.in_ok-st.was

pub returns : goal.returns
returns c = kind_through c.walk.ensures c.in_ok-st.was c.ending.ensures.reads

pub returns-in_err-st : goal.returns-in_err-st
returns-in_err-st c =
    let p = err_from_is_err_and c.from_residual.result c.from_residual.ensures.1 in
    rw (p.1, p.2) (kind_stopped c.walk.ensures c.in_err-st.was)
