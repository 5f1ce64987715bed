-- `chroma` is its definition: the compiler's float literals are the f32 numbers that it names.
-- Assumes nothing.
use Rattle.std.proofs.Common.{ap}
use lib.Ieee.{Float, binary32, of_bits, of_int, sub, mul, div}
use Rattle.pgs_color.specs.Sums.{whole}
use Rattle.pgs_color.proofs.ycbcr.chroma.Goals as goal

pub returns : goal.returns
unfolding of_bits of_int
returns c =
    ap (λ (v : Float). mul binary32 (mul binary32 c.args.decimal (sub binary32 v (whole 128))) (div binary32 (whole 255) (whole 224)))
    c.from.ensures
