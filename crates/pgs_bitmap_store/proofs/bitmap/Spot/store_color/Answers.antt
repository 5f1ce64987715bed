-- `store_color` meets its contract: by the run, then by the pixel. Assumes nothing.
use mathlib.Core.List.{[], ◌∷◌}
use Prim.Native.Nat.{◌+◌}
use native.Mathlib.Omega.{arith}
use lib.ListN.{get_or}
use Rattle.pgs_run_length.proofs.OneCode.{run-short-color}
use Rattle.pgs_bitmap_store.proofs.BitmapStores.{storing-escape}
use Rattle.pgs_bitmap_store.proofs.bitmap.Spot.store_color.Goals as goal

pub store_literal-requires-clause-storing : goal.store_literal-requires-clause-storing
store_literal-requires-clause-storing c =
    let l = c.args.«data».now in
    let at = c.args.self.at in
    let low = c.short_count.ensures in
    let filled = c.store_short in
    let next = filled.ensures.past in
    let code = c.requires.code in
    rw next
    (storing-escape c.requires.storing (omega arith) code.zero
    (run-short-color (get_or l (at + 1) 0) _ (get_or l (at + 2) 0 ∷ get_or l (at + 3) 0 ∷ []) low (omega (arith, code.from_low)) code.from_low code.to_high)
    filled.auto.pixels filled.ensures.filled)
