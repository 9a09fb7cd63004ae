-- The header opens its group, or it is refused.
use Rattle.std.proofs.lemmas.Result.{err_from_is_err_and}
use Rattle.reader.proofs.GoodHeader.{header_good, header_stops, header_goes}
use Rattle.reader.proofs.opening.header_step.Goals as goal

pub opened-requires : goal.opened-requires
opened-requires c = record { few = c.requires.known.holds.spans.few; room = (header_good c.args.d c.args.file.now c.args.st c.args.x.now c.args.name c.heading.ensures c.in_ok-g.was).room; header = c.requires.header; named = c.requires.named }

pub returns : goal.returns
returns c = header_goes c.args.d c.args.file.now c.args.st c.args.x.now c.args.name c.heading.ensures c.in_ok-g.was c.requires.inside c.requires.counted c.opened.ensures

pub returns-in_err-g : goal.returns-in_err-g
returns-in_err-g c =
    let p = err_from_is_err_and c.from_residual.result c.from_residual.ensures.1 in
    rw (p.1, p.2) (header_stops c.args.d c.args.file.now c.args.st c.args.x.now c.args.name c.heading.ensures c.in_err-g.was)
