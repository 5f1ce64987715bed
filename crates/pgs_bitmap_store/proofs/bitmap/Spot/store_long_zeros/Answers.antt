-- `store_long_zeros` meets its contract, by the length of the run. Assumes nothing.
use mathlib.Core.Path.{◌≡◌, refl, ◌∙◌, ap}
use mathlib.Core.List.{[], ◌∷◌}
use Prim.Native.Nat.{ℕ, ◌+◌, ◌*◌, ◌%◌, ◌≤◌, ◌<◌}
use native.Mathlib.Omega.{arith}
use Rattle.pgs_run_length.specs.RunLength.{run, found, run_of}
use Rattle.pgs_run_length.proofs.OneCode.{run-long-zero}
use Rattle.pgs_bitmap_store.proofs.BitmapStores.{block-fills, storing-escape, storing-past}
use Rattle.pgs_bitmap_store.proofs.bitmap.Spot.store_long_zeros.Goals as goal

-- the run that the code is
the-run : (second third fourth : ℕ) {count : ℕ} → count ≡ 256 * (second % 64) + third → 0x40 ≤ second → second < 0x80
    → found (run count 0) 3 ≡ run_of second (third ∷ fourth ∷ [])
the-run second third fourth is h k =
    ap (λ (n : ℕ). found (run n 0) 3) is ∙ run-long-zero second (second % 64) (third ∷ fourth ∷ []) refl h k

pub store_literal-requires-clause-storing : goal.store_literal-requires-clause-storing
store_literal-requires-clause-storing c =
    let block = c.fill_exactly in
    let next = c.further.ensures in
    let code = c.requires.code in
    rw next
    (storing-escape c.requires.storing (omega arith) code.zero (the-run _ _ _ c.long_count-count.ensures.0 code.from_low code.to_high) block.auto.pixels
    (block-fills 128 c.if-count-le128.true (omega arith) block.ensures))

pub returns : goal.returns
returns c =
    let filled = c.store_run in
    let code = c.requires.code in (
      omega arith,
      storing-past filled.ensures.past
          (storing-escape c.requires.storing (omega arith) code.zero (the-run _ _ _ c.long_count-count.ensures.0 code.from_low code.to_high) filled.auto.pixels filled.ensures.filled),
    )
