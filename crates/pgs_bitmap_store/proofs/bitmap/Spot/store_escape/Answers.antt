-- `store_escape` meets its contract, by the second byte of the code. Assumes nothing.
use mathlib.Core.Path.{refl, ◌∙◌, ap}
use mathlib.Core.List.{[], ◌∷◌}
use Prim.Native.Nat.{ℕ, ◌+◌}
use native.Mathlib.Omega.{arith}
use lib.ListN.{get_or}
use Rattle.pgs_run_length.specs.RunLength.{run, found}
use Rattle.pgs_run_length.proofs.OneCode.{run-short-zero, run-long-color}
use Rattle.pgs_bitmap_store.proofs.BitmapStores.{block-fills, storing-escape, storing-past}
use Rattle.pgs_bitmap_store.proofs.bitmap.Spot.store_escape.Goals as goal

pub store_stroke-requires-clause-storing : goal.store_stroke-requires-clause-storing
store_stroke-requires-clause-storing c =
    let l = c.args.«data».now in
    let at = c.args.self.at in
    let low = c.short_count.ensures in
    let block = c.fill_exactly in
    let next = c.further.ensures in
    rw next
    (storing-escape c.requires.storing (omega arith) c.requires.code
    (run-short-zero (get_or l (at + 1) 0) _ (get_or l (at + 2) 0 ∷ get_or l (at + 3) 0 ∷ []) low (omega (arith, c.in-0-to-63)))
    block.auto.pixels (block-fills 64 (omega (arith, low)) (omega arith) block.ensures))

pub returns-in-192-to-255 : goal.returns-in-192-to-255
returns-in-192-to-255 c =
    let l = c.args.«data».now in
    let at = c.args.self.at in
    let filled = c.store_run in (
      omega arith,
      storing-past filled.ensures.past
          (storing-escape c.requires.storing (omega arith) c.requires.code
          (ap (λ (n : ℕ). found (run n (get_or l (at + 3) 0)) 4) c.long_count.ensures.0
          ∙ run-long-color (get_or l (at + 1) 0) _ (get_or l (at + 2) 0 ∷ get_or l (at + 3) 0 ∷ []) refl
          (omega (arith, c.in-192-to-255)) (omega (arith, c.in-192-to-255)) (omega (arith, c.in-192-to-255)))
          filled.auto.pixels filled.ensures.filled),
    )
