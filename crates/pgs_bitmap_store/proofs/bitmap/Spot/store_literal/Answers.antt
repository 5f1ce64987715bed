-- `store_literal` meets its contract. Assumes nothing.
use native.Mathlib.Omega.{arith}
use Rattle.pgs_bitmap_store.proofs.BitmapStores.{storing-pixel}
use Rattle.pgs_bitmap_store.proofs.bitmap.Spot.store_literal.Goals as goal

pub returns-then-b-ne0 : goal.returns-then-b-ne0
returns-then-b-ne0 c =
    let next = c.further.ensures in
    rw next (omega arith, omega arith, omega arith, storing-pixel c.requires.storing c.requires.there c.if-b-ne0.true c.requires.room)
