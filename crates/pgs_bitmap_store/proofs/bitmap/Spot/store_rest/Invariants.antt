-- `store_rest` meets its contract. The loop's invariant: the pixels of the codes before this spot are stored, and those from its
-- place on are as they were. The measure is what is
-- left of the data. Assumes nothing.
use mathlib.Core.Path.{◌≡◌}
use Prim.Native.Nat.{◌-◌}
use lib.ListN.{length, drop}
use Rattle.pgs_bitmap_store.specs.Progress.{Storing}
use Rattle.pgs_bitmap_store.proofs.bitmap.Spot.store_rest.Given as goal

abbrev pub invariant-loop-code : goal.invariant-loop-code
invariant-loop-code l = (length l.pixels ≡ length l.initial.pixels) × Storing l.«data» l.pixels l.spot × (drop l.spot.out l.pixels ≡ drop l.spot.out l.initial.pixels)

abbrev pub decreases-loop-code : goal.decreases-loop-code
decreases-loop-code l = length l.«data» - l.spot.at
