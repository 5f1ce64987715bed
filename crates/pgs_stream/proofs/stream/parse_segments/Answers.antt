-- `parse_segments` delivers the records: what `count_segments` answered, then the room, then the stores.
-- Assumes nothing.
use Rattle.pgs_base.proofs.Outcomes.{gave, gave-value, delivers-passed, delivers-short, delivers-all}
use Rattle.pgs_stream.proofs.SegmentLaws.{placed-records}
use Rattle.pgs_stream.proofs.StreamLaws.{records-length, segment-records}
use Rattle.pgs_stream.specs.Segments.{placed, of_placed}
use Rattle.pgs_stream.specs.Stream.{read_of, stream_verdict, segment_count}
use lib.ListN.{drop}
use lib.Seq.{length-take-le}
use mathlib.Core.List.{◌++◌}
use mathlib.Core.Path.{sym, ◌∙◌}
use native.Mathlib.Omega.{arith}
use Rattle.pgs_stream.proofs.stream.parse_segments.Goals as goal

pub returns-then-list-n : goal.returns-then-list-n
returns-then-list-n g c =
    let s = c.args.s.now in
    let e = c.in_ok-n.ensures in
    delivers-short (gave (stream_verdict s) (segment_count s) e)
    (omega (arith, segment-records (of_placed g.R.FromRecord.from_record) s, gave-value (stream_verdict s) (segment_count s) e))

pub fill_segments-requires : goal.fill_segments-requires
fill_segments-requires g c =
    let s = c.args.s.now in
    let n = gave-value (stream_verdict s) (segment_count s) c.in_ok-n.ensures in
    omega (arith, records-length placed 0 (read_of s).pieces, length-take-le c.in_ok-n.n c.args.list.now c.if-list-n.false)

pub returns : goal.returns
returns g c =
    let s = c.args.s.now in
    let made = g.R.FromRecord.from_record in
    let its = of_placed made in
    let e = c.in_ok-n.ensures in
    let n = gave-value (stream_verdict s) (segment_count s) e in
    let all = c.fill_segments.ensures ∙ placed-records made s in
    delivers-all (gave (stream_verdict s) (segment_count s) e)
    (omega (arith, segment-records its s, n, c.if-list-n.false)) n
    (λ j. all j ++ drop ((n ∙ sym (segment-records its s)) j) c.args.list.now)

pub returns-in_err-n : goal.returns-in_err-n
returns-in_err-n g c = delivers-passed (segment_count c.args.s.now) c.from_residual.result _ c.from_residual.ensures.1 (c.in_err-n.ensures)
