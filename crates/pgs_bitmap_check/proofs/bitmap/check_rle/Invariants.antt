-- `check_rle` meets its contract. The loop's invariant: reading on from this place comes to the same, with the width not tested yet, and the
-- pixels of the line are not many for the bytes that were read. The measure is what is left of the data. Assumes nothing.
use Prim.Native.Nat.{◌-◌, ◌*◌, ◌≤◌}
use lib.ListN.{length}
use Rattle.pgs_bitmap_check.specs.Bitmap.{reading_of}
use Rattle.pgs_bitmap_check.specs.Progress.{Untested}
use Rattle.pgs_bitmap_check.proofs.bitmap.check_rle.Given as goal

abbrev pub invariant-loop-place : goal.invariant-loop-place
invariant-loop-place l =
    (Untested l.«data» l.size l.place (reading_of l.«data» l.size.width l.size.height).verdict) × (l.place.column ≤ 65536 * l.place.at)

abbrev pub decreases-loop-place : goal.decreases-loop-place
decreases-loop-place l = length l.«data» - l.place.at
