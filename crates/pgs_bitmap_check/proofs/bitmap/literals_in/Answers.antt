-- `literals_in` meets its contract, by eights after the fourth byte. Assumes nothing.
use native.Mathlib.Omega.{arith}
use Rattle.pgs_run_length.proofs.LiteralBytes.{literals-one, literals-next, literals-join, literals-left}
use Rattle.pgs_bitmap_check.proofs.bitmap.literals_in.Goals as goal

pub returns-in-len4-up : goal.returns-in-len4-up
returns-in-len4-up c =
    let l = c.args.«data».now in
    let more = c.literals_by_eight in
    let two = literals-next l 0 1 (literals-one l 0 c.requires.1) (λ e. omega (arith, e)) in
    let four = literals-next l 0 3 (literals-next l 0 2 two (λ e. omega (arith, e))) (λ e. omega (arith, e)) in (
      omega arith,
      omega (arith, more.ensures.0),
      omega (arith, more.ensures.1),
      literals-join l 0 4 more.result four (literals-left l 4 more.result more.ensures.2),
    )
