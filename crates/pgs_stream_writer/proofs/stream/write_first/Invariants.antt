-- `write_first` performs one write after another: the loop keeps `Performing`.
-- Assumes nothing.
use Rattle.pgs_stream.specs.Segments.{segments_left}
use Rattle.pgs_stream_writer.proofs.StreamWriteLaws.{Performing}
use Rattle.pgs_stream_writer.proofs.stream.write_first.Given as goal

abbrev pub invariant-loop-segment : goal.invariant-loop-segment
invariant-loop-segment l =
    let start = l.initial.segments in
    Performing start.stream.now start.at l.n l.initial.out l.out l.segment-iterator.n (segments_left l.segment-iterator.iter) l.bytes l.accepted
