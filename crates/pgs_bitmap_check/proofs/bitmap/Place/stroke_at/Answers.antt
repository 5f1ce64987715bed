-- `stroke_at` meets its contract. Assumes nothing.
use Prim.Native.Nat.{◌+◌}
use native.Mathlib.Omega.{arith}
use Rattle.pgs_bitmap_check.proofs.UntestedWidth.{short-color-here, onward-none, onward-pixel, onward-stroke}
use Rattle.pgs_bitmap_check.proofs.bitmap.Place.stroke_at.Goals as goal

pub returns-in_default : goal.returns-in_default
returns-in_default c =
    let next = c.further-in_default.ensures in
    rw next (omega arith, onward-pixel (omega arith) c.if-data-self-eq0.false onward-none)

pub returns-in-0-128-to-191 : goal.returns-in-0-128-to-191
returns-in-0-128-to-191 c =
    let second = c.in-0-128-to-191 in
    let run = short-color-here c.args.«data».now (c.args.self.at + 1) (omega arith) second.is-0 c.short_count.ensures (omega (arith, second)) (omega (arith, second)) in
    let on = rw c.further.ensures at c.pixels_at.ensures in
    (omega (arith, c.short_count.ensures, on.0), onward-stroke (omega arith) c.if-data-self-eq0.false run on.1)
