-- `store_bitmaps` stores each bitmap behind those before it. Assumes nothing.
use Rattle.pgs_rendering.proofs.StoreLaws.{stores_one, stores-on}
use Rattle.pgs_render.proofs.listed_set.ListedSet.store_bitmaps.Goals as goal

pub store_bitmap-requires : goal.store_bitmap-requires
store_bitmap-requires c = stores_one c.args.self.set.stream.now c.args.self.records.now c.args.from c.args.scratch.now c.requires c.loop-record.invariant c.loop-record-test.true

pub loop-record-preserved : goal.loop-record-preserved
loop-record-preserved c =
    rw c.area-at.ensures
    (stores-on c.args.self.set.stream.now c.args.self.records.now c.args.from c.args.scratch.now c.requires c.loop-record.invariant
    c.loop-record-test.true c.store_bitmap.ensures c.store_bitmap.auto.scratch)
