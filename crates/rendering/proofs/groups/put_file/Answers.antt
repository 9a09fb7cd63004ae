-- The four groups are written in turn, each into what the ones before it left (`four_wrote`).
use Rattle.rendering.proofs.Four.{four_first, four_second, four_third, four_fourth, four_wrote}
use Rattle.rendering.proofs.GroupTexts.{file_four}
use Rattle.rendering.proofs.groups.put_file.Goals as goal

pub put_settings-at-requires : goal.put_settings-at-requires
put_settings-at-requires c = four_first (file_four c.args.r c.args.servers) c.args.out.now c.requires.room

pub put_security-at-requires : goal.put_security-at-requires
put_security-at-requires c = four_second (file_four c.args.r c.args.servers) c.args.out.now c.requires.room c.put_settings-at.ensures

pub put_ipv4-at-requires : goal.put_ipv4-at-requires
put_ipv4-at-requires c = rw c.numbers-numbers.ensures (record { size = c.requires.within.length; most = c.requires.within.servers; room = four_third (file_four c.args.r c.args.servers) c.args.out.now c.requires.room c.put_settings-at.ensures c.put_security-at.ensures })

pub put_ipv6-at-requires : goal.put_ipv6-at-requires
put_ipv6-at-requires c = rw c.ipv6_numbers-ipv6.ensures (four_fourth (file_four c.args.r c.args.servers) c.args.out.now c.requires.room c.put_settings-at.ensures c.put_security-at.ensures (rw c.numbers-numbers.ensures at c.put_ipv4-at.ensures))

pub returns : goal.returns
returns c = four_wrote (file_four c.args.r c.args.servers) c.args.out.now c.requires.room c.put_settings-at.ensures c.put_security-at.ensures (rw c.numbers-numbers.ensures at c.put_ipv4-at.ensures) (rw c.ipv6_numbers-ipv6.ensures at c.put_ipv6-at.ensures)
