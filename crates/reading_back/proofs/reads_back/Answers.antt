-- A record that is written is read back and compared; of a refusal nothing is.
use mathlib.Core.Path.{sym}
use lib.Seq.{length-take-le}
use Rattle.reading_back.proofs.TypedArrays.{typed_arrays}
use Rattle.reading_back.proofs.ReadBack.{back_refused, name_fits, file_fits, back_good}
use borrow.Author.Rules.{rules}
use Rattle.reading_back.proofs.reads_back.Goals as goal

pub slice_bounds-is_record-end : goal.slice_bounds-is_record-end
slice_bounds-is_record-end c = name_fits c.args.r c.args.servers (typed_arrays c.args.r c.args.servers _ _ c.well_formed.0 c.well_formed.1.0) c.write_iwd-written.ensures c.in-Ok.is

pub slice_bounds-is_record-end-in-Ok : goal.slice_bounds-is_record-end-in-Ok
slice_bounds-is_record-end-in-Ok c = sym (length-take-le _ _ (name_fits c.args.r c.args.servers (typed_arrays c.args.r c.args.servers _ _ c.well_formed.0 c.well_formed.1.0) c.write_iwd-written.ensures c.in-Ok.is))

pub slice_bounds-is_record-end-in-Ok-2 : goal.slice_bounds-is_record-end-in-Ok-2
slice_bounds-is_record-end-in-Ok-2 c = file_fits c.args.r c.args.servers (typed_arrays c.args.r c.args.servers _ _ c.well_formed.0 c.well_formed.1.0) c.write_iwd-written.ensures c.in-Ok.is

pub slice_bounds-is_record-end-in-Ok-3 : goal.slice_bounds-is_record-end-in-Ok-3
slice_bounds-is_record-end-in-Ok-3 c = sym (length-take-le _ _ (file_fits c.args.r c.args.servers (typed_arrays c.args.r c.args.servers _ _ c.well_formed.0 c.well_formed.1.0) c.write_iwd-written.ensures c.in-Ok.is))

pub returns-in-Ok : goal.returns-in-Ok
returns-in-Ok c = back_good c.args.r c.args.servers (typed_arrays c.args.r c.args.servers _ _ c.well_formed.0 c.well_formed.1.0) c.write_iwd-written.ensures c.in-Ok.is c.is_record-same.ensures

pub returns-in-Err : goal.returns-in-Err
returns-in-Err c = back_refused c.args.r c.args.servers (typed_arrays c.args.r c.args.servers _ _ c.well_formed.0 c.well_formed.1.0) c.write_iwd-written.ensures c.in-Err.is
