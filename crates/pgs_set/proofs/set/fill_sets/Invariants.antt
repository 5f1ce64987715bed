-- `fill_sets` stores a record for each set: the records stored and those of the sets that are left are all of them.
-- Assumes nothing.
use Rattle.pgs_base.proofs.Front.{Front}
use Rattle.pgs_set.specs.Records.{records_left, set_records}
use mathlib.Core.List.{map}
use Rattle.pgs_set.proofs.set.fill_sets.Given as goal

abbrev pub invariant-loop-record : goal.invariant-loop-record
invariant-loop-record g l =
    let made = map g.R.FromRecord.from_record in
    Front l.initial.record-items (made (set_records l.sets.stream.now)) l.record-items (made (records_left l.records)) l.record-index
