-- `decode_rle` meets its contract: each answer follows from what the check found. Assumes nothing.
use Rattle.pgs_bitmap.proofs.DecodeAnswers.{stored-bitmap}
use Rattle.pgs_bitmap.proofs.bitmap.decode_rle.Goals as goal

pub returns : goal.returns
returns c =
    let area = c.area-need.ensures in
    rw area
    (stored-bitmap c.args.«data».now c.args.width c.args.height c.args.pixels.now _ c.in_ok-check_rle.ensures
    (rw area at c.if-pixels-need.false) (rw area at c.store_rle.ensures))
