-- `pgs_parse_segments` passes the layer's answer on.
-- Assumes nothing.
use Rattle.pgs_base.specs.Outcome.{delivery}
use Rattle.pgs_c_told.proofs.ToldLaws.{told-verdict}
use Rattle.pgs_stream.specs.Stream.{stream_verdict, segment_count, segment_rows}
use Rattle.pgs_c_segment.proofs.segments.pgs_parse_segments.Goals as goal

pub returns : goal.returns
returns c =
    let s = c.args.stream.now in
    let d = c.parse_segments.ensures in
    let v = delivery (stream_verdict s) (segment_rows s) c.args.segments.now in
    let t = told-verdict v (segment_count s) c.args.count.now d.answered c.told.ensures.value c.told.ensures.count_after in
    record { code = t.0; listed = d.written; counted = t.1 }
