-- `store_short` meets its contract: the run is the front of either block. Assumes nothing.
use native.Mathlib.Omega.{arith}
use Rattle.pgs_bitmap_store.proofs.BitmapStores.{block-fills}
use Rattle.pgs_bitmap_store.proofs.bitmap.Spot.store_short.Goals.{then-run-le16, else-run-le16}
use Rattle.pgs_bitmap_store.proofs.bitmap.Spot.store_short.Goals as goal

pub returns-clause-filled : goal.returns-clause-filled
returns-clause-filled c =
    elim c.if-run-le16.branch [
      | then-run-le16 w ↦ rw w.pixels-is (block-fills 16 w.if-run-le16.true (omega arith) w.fill_exactly.ensures)
      | else-run-le16 w ↦ rw w.pixels-is (block-fills 64 (omega arith) (omega arith) w.fill_exactly-else-run-le16.ensures)
    ]
