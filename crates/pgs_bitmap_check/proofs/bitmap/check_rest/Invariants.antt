-- `check_rest` meets its contract. The loop's invariant: reading on from this place comes to the same. The measure is what is left of
-- the data. Assumes nothing.
use Prim.Native.Nat.{◌-◌}
use lib.ListN.{length}
use Rattle.pgs_bitmap_check.specs.Progress.{Reached, verdict_from}
use Rattle.pgs_bitmap_check.proofs.bitmap.check_rest.Given as goal

abbrev pub invariant-loop-code : goal.invariant-loop-code
invariant-loop-code l = Reached l.«data» l.size l.place (verdict_from l.«data» l.size l.fn.from)

abbrev pub decreases-loop-code : goal.decreases-loop-code
decreases-loop-code l = length l.«data» - l.place.at
