-- The first 255 of 256 signs.
-- Assumes nothing.
use lib.Seq.{length-take-le}
use mathlib.Core.Path.{sym}
use native.Mathlib.Omega.{arith}
use Rattle.writer_samples.proofs.sentence.samples.Goals as goal

pub slice_bounds-write_signs-end-2 : goal.slice_bounds-write_signs-end-2
slice_bounds-write_signs-end-2 g c = sym (length-take-le 255 c.sentence-signs.result (omega (arith, c.sentence-signs.type_inv)))
