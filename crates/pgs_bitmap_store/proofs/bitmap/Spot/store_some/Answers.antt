-- `store_some` meets its contract: by the code that begins with 00, by eight bytes, or by one. Assumes nothing.
use native.Mathlib.Omega.{arith}
use Rattle.pgs_bitmap_store.proofs.BitmapStores.{storing-pixel}
use Rattle.pgs_bitmap_store.proofs.bitmap.Spot.store_some.Goals as goal

pub returns : goal.returns
returns c =
    let next = c.further.ensures in
    rw next (omega arith, storing-pixel c.requires.storing (omega arith) c.if-b-eq0.false (omega arith))
