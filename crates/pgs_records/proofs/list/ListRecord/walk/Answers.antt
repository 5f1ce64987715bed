-- `walk` passes over the records: the loop keeps `Walking`.
-- Assumes nothing.
use Rattle.pgs_records.proofs.RecordLaws.{walk-on}
use Rattle.pgs_records.proofs.list.ListRecord.walk.Goals as goal

pub loop-preserved : goal.loop-preserved
loop-preserved g c =
    let got = rw c.in_ok-rest.ensures.ok_part at c.get.ensures.lookup.0 in
    walk-on g.Self.ListRecord.size c.args.l.now c.args.n c.loop.invariant c.loop-test.true c.size.ensures got.0 got.2
