-- The service has a line that iwd has no place for, or its record is written.
use Rattle.places.specs.declared.KeyName.TheVariants as N
use Rattle.values.proofs.KeptValues.{key_in}
use Rattle.mover.proofs.Moving.{record_within, found_unplaced, found_placed}
use Rattle.mover.proofs.move_found.Goals as goal

pub returns-in-Some : goal.returns-in-Some
returns-in-Some c = found_unplaced c.unplaced_line.ensures c.args.name_out.now c.args.file_out.now c.in-Some.is c.refused.ensures

pub list_at-count-requires : goal.list_at-count-requires
list_at-count-requires c = key_in N.Nameservers c.requires

pub service_join-record-requires : goal.service_join-record-requires
service_join-record-requires c = record { kept = c.requires; counted = c.list_at-count.ensures.0 }

pub write_placed-requires : goal.write_placed-requires
write_placed-requires c = record_within c.requires c.service_join-record.ensures

pub returns : goal.returns
returns c = found_placed c.unplaced_line.ensures c.args.name_out.now c.args.file_out.now c.in_default.is c.service_join-record.ensures c.list_at-count.ensures.1 c.write_placed.ensures
