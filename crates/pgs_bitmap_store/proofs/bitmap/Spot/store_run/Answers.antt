-- `store_run` meets its contract: the run, or what of it there is room for. Assumes nothing.
use native.Mathlib.Omega.{arith}
use Rattle.pgs_bitmap_store.proofs.BitmapStores.{filled-behind}
use Rattle.pgs_bitmap_store.proofs.bitmap.Spot.store_run.Goals as goal

pub returns-clause-behind : goal.returns-clause-behind
returns-clause-behind c =
    let next = c.further.ensures in
    rw next (filled-behind c.args.pixels.now _ c.args.self.out c.min-stored.result c.args.run.color (omega arith) c.fill_exactly.ensures)
