-- `run_at` meets its contract, by the second byte. Assumes nothing.
use mathlib.Core.Path.{refl, ◌∙◌, ap}
use mathlib.Core.List.{[], ◌∷◌}
use Prim.Native.Nat.{ℕ, ◌+◌}
use native.Mathlib.Omega.{arith}
use lib.ListN.{get_or}
use Rattle.pgs_run_length.specs.RunLength.{run, found}
use Rattle.pgs_run_length.proofs.OneCode.{run-short-zero, run-long-zero, run-long-color}
use Rattle.pgs_bitmap_check.proofs.UntestedWidth.{run-here, short-color-here, onward-none, onward-run}
use Rattle.pgs_bitmap_check.proofs.bitmap.Place.run_at.Goals as goal

pub returns-in-0-to-63 : goal.returns-in-0-to-63
returns-in-0-to-63 c =
    let l = c.args.«data».now in
    let at = c.args.self.at in
    let on = rw c.further.ensures at c.stroke_at.ensures in (
      omega (arith, on.1.order),
      omega (arith, c.short_count.ensures, on.0),
      onward-run
          (run-here l at (omega arith) c.requires.1 c.requires.2
          (run-short-zero (get_or l (at + 1) 0) _ (get_or l (at + 2) 0 ∷ get_or l (at + 3) 0 ∷ []) c.short_count.ensures
          (omega (arith, c.in-0-to-63)))) on.1,
    )

pub returns-in-64-to-127 : goal.returns-in-64-to-127
returns-in-64-to-127 c =
    let l = c.args.«data».now in
    let at = c.args.self.at in
    let on = rw c.further-in-64-to-127.ensures at c.stroke_at-in-64-to-127.ensures in (
      omega (arith, on.1.order),
      omega (arith, c.long_count.ensures.1, on.0),
      onward-run
          (run-here l at (omega arith) c.requires.1 c.requires.2
          (ap (λ (n : ℕ). found (run n 0) 3) c.long_count.ensures.0
          ∙ run-long-zero (get_or l (at + 1) 0) _ (get_or l (at + 2) 0 ∷ get_or l (at + 3) 0 ∷ []) refl
          (omega (arith, c.in-64-to-127)) (omega (arith, c.in-64-to-127)))) on.1,
    )

pub returns-in-128-to-191 : goal.returns-in-128-to-191
returns-in-128-to-191 c =
    let l = c.args.«data».now in
    let at = c.args.self.at in
    let on = rw c.further-in-128-to-191.ensures at c.pixels_at.ensures in (
      omega (arith, on.1.order),
      omega (arith, c.short_count-in-128-to-191.ensures, on.0),
      onward-run
          (short-color-here l at (omega arith) c.requires.1 c.short_count-in-128-to-191.ensures
          (omega (arith, c.in-128-to-191)) (omega (arith, c.in-128-to-191))) on.1,
    )

pub returns-in-192-to-255 : goal.returns-in-192-to-255
returns-in-192-to-255 c =
    let l = c.args.«data».now in
    let at = c.args.self.at in
    let next = c.further-in-192-to-255.ensures in
    rw next (
      omega arith,
      omega (arith, c.long_count-in-192-to-255.ensures.1),
      onward-run
          (run-here l at (omega arith) c.requires.1 c.requires.2
          (ap (λ (n : ℕ). found (run n (get_or l (at + 3) 0)) 4) c.long_count-in-192-to-255.ensures.0
          ∙ run-long-color (get_or l (at + 1) 0) _ (get_or l (at + 2) 0 ∷ get_or l (at + 3) 0 ∷ []) refl
          (omega (arith, c.in-192-to-255)) (omega (arith, c.in-192-to-255)) (omega (arith, c.in-192-to-255)))) onward-none,
    )
