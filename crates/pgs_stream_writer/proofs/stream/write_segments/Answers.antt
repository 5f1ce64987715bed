use Rattle.pgs_base.proofs.Outcomes.{turned_down, passed_on}
use Rattle.pgs_stream.specs.Stream.{stream_verdict, segment_count}
use Rattle.pgs_stream_writer.proofs.StreamWriteLaws.{refused-writes}
use mathlib.Core.Path.{◌∙◌}
use Rattle.pgs_stream_writer.proofs.stream.write_segments.Goals as goal

pub returns-in_err-count_segments : goal.returns-in_err-count_segments
returns-in_err-count_segments c =
    let s = c.args.s.now in
    let w =
    refused-writes c.args.writes s c.args.out.now (turned_down (stream_verdict s) (segment_count s) c.in_err-count_segments.ensures) in
    record { result_value = passed_on c.from_residual.result _ c.from_residual.ensures.1 ∙ w.0; out_after = w.1 }
