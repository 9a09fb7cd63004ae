-- The addresses, the servers and the domain are written in turn (`three_wrote`).
use lib.ListN.{take}
use Rattle.written.specs.RecordParts.{numbers_in}
use Rattle.rendering.proofs.Three.{three_wrote}
use Rattle.rendering.proofs.GroupTexts.{ipv4_rows_lem}
use Rattle.rendering.proofs.groups.put_ipv4_rows.Goals as goal

pub returns : goal.returns
returns c = three_wrote (ipv4_rows_lem (numbers_in c.args.i) (take c.args.count c.args.servers) c.args.domain.now) c.put_numbers-p.ensures c.put_servers-q.ensures c.put_domain.ensures
