-- The three lines are written in turn (`three_wrote`).
use Rattle.rendering.proofs.Three.{three_wrote}
use Rattle.rendering.proofs.RowTexts.{static_text}
use Rattle.rendering.proofs.rows.put_static.Goals as goal

pub returns : goal.returns
returns c = three_wrote (static_text c.args.i c.mask_bytes.ensures) c.put_address-p.ensures c.put_address-q.ensures c.put_gateway.ensures
