-- `pixels_at` meets its contract. Assumes nothing.
use native.Mathlib.Omega.{arith}
use Rattle.pgs_run_length.proofs.LiteralBytes.{literals-one, literals-next}
use Rattle.pgs_bitmap_check.proofs.UntestedWidth.{onward-none, onward-pixel}
use Rattle.pgs_bitmap_check.proofs.LiteralStretch.{onward-literals}
use Rattle.pgs_bitmap_check.proofs.bitmap.Place.pixels_at.Goals as goal

pub returns-in_default-eq0 : goal.returns-in_default-eq0
returns-in_default-eq0 c =
    let next = c.further.ensures in
    rw next (omega arith, onward-pixel (omega arith) (λ e. omega (arith, e, c.in_default-eq0)) onward-none)

pub returns-in_default : goal.returns-in_default
returns-in_default c =
    let l = c.args.«data».now in
    let at = c.args.self.at in
    let next = c.further-in_default.ensures in
    rw next
    (omega arith, onward-literals 2 (literals-next l at 1 (literals-one l at (λ e. omega (arith, e, c.in_default))) (λ e. omega (arith, e, c.in_default))) (omega arith))
