-- `store_rle` meets its contract. The loop's invariant: the pixels of the codes before this spot are stored. The measure is what is
-- left of the data. Assumes nothing.
use mathlib.Core.Path.{◌≡◌}
use Prim.Native.Nat.{◌-◌}
use lib.ListN.{length}
use Rattle.pgs_bitmap_store.specs.Progress.{Storing}
use Rattle.pgs_bitmap_store.proofs.bitmap.store_rle.Given as goal

abbrev pub invariant-loop-spot : goal.invariant-loop-spot
invariant-loop-spot l = (length l.pixels ≡ length l.initial.pixels) × Storing l.«data» l.pixels l.spot

abbrev pub decreases-loop-spot : goal.decreases-loop-spot
decreases-loop-spot l = length l.«data» - l.spot.at
