-- `literals_by_eight` meets its contract: the full eights are eight bytes each. Assumes nothing.
use native.Mathlib.Omega.{arith}
use Rattle.pgs_bitmap_check.proofs.FullEights.{counted-eights}
use Rattle.pgs_bitmap_check.proofs.bitmap.literals_by_eight.Goals as goal

pub returns : goal.returns
returns c =
    let most = c.at_once.ensures in
    let eights = c.as_chunks.ensures in
    let counted = counted-eights c.args.«data».now c.at_once.result most.0 eights.front eights.front_len c.full_eights.ensures in
    (omega (arith, counted.0, most.0), omega (arith, counted.0, most.1), counted.1)
