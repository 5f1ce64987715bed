-- `fill_segments` stores a record for each segment: the records stored and those of the segments left are all of them.
-- Assumes nothing.
use Rattle.std.specs.Prelude.{map}
use Rattle.pgs_base.proofs.Front.{Front}
use Rattle.pgs_stream.specs.Segments.{segments_left}
use Rattle.pgs_stream.proofs.stream.fill_segments.Given as goal

abbrev pub invariant-loop-record : goal.invariant-loop-record
invariant-loop-record g l =
    let records = map g.R.FromRecord.from_record in
    Front l.initial.record-items (records (segments_left l.initial.segments)) l.record-items (records (segments_left l.segments)) l.record-index
