-- What pgs_stream delivers, over this record. Assumes nothing.
use Rattle.pgs_segment_list.proofs.RecordLaws.{records-of-rows}
use Rattle.pgs_segment_list.proofs.parse_segments.Goals as goal

pub returns : goal.returns
returns c = rw (records-of-rows c.args.s.now) at c.parse_segments.ensures
