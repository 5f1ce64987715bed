-- `pgs_write_segments` tells the two counts of the layer's answer.
-- Assumes nothing.
use Rattle.std.proofs.Common.{rules}
use Rattle.pgs_c_told.proofs.ToldLaws.{told-mapped}
use Rattle.pgs_stream.specs.Stream.{stream_verdict}
use Rattle.pgs_stream_writer.specs.StreamWrites.{stream_writes, writes_done}
use Rattle.pgs_stream_writer.specs.declared.stream.Writes.{Writes}
use Rattle.pgs_c_writer.proofs.writing.pgs_write_segments.Goals as goal

pub returns : goal.returns
returns c =
    let v = stream_verdict c.args.stream.now in
    let x = writes_done (stream_writes c.args.writes c.args.stream.now c.args.out.now) in
    let d = c.write_segments-answer.ensures in
    let n = told-mapped (λ (w : Writes). w.accepted) (λ y z h. search rules) v x c.write_segments-answer.result c.map.result c.args.accepted.now
    d.result_value c.map.ensures.cases c.told.ensures.value c.told.ensures.count_after in
    let t = told-mapped (λ (w : Writes). w.bytes) (λ y z h. search rules) v x c.write_segments-answer.result c.map-2.result c.args.written.now
    d.result_value c.map-2.ensures.cases c.told-2.ensures.value c.told-2.ensures.count_after in
    record { code = t.0; stored = d.out_after; counted = n.1; reached = t.1 }
