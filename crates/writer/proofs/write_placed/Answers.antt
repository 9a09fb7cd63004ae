-- A buffer that is too short, or both texts written.
use Rattle.writer.proofs.Answering.{name_refused, both_written}
use Rattle.writer.proofs.write_placed.Goals as goal

pub returns-then-name-name_len : goal.returns-then-name-name_len
returns-then-name-name_len c = name_refused c.args.r c.args.servers c.suffix_of-suffix.ensures c.args.name.now c.args.file.now c.iwd_name_len-name_len.ensures c.if-name-name_len.true c.refused.ensures

pub returns : goal.returns
returns c = both_written c.args.r c.args.servers c.suffix_of-suffix.ensures c.args.name.now c.args.file.now c.iwd_name_len-name_len.ensures c.if-name-name_len.false c.file_len-file_len.ensures c.if-file-file_len.false c.put_iwd_name.ensures c.put_file.ensures
