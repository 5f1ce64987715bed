-- `channel_sums` gives the sums of `sums_of`: the compiler's decimals are the f32 numbers that the definition names.
-- Assumes nothing.
use lib.Ieee.{of_bits, round, binary32, add, sub}
use Rattle.pgs_color.proofs.ycbcr.channel_sums.Goals as goal

pub returns : goal.returns
unfolding of_bits round
returns c =
    let y = c.luma-yf.ensures in
    λ i.
    record {
      r = add binary32 (y i) (c.chroma.ensures i);
      g = sub binary32 (sub binary32 (y i) (c.chroma-2.ensures i)) (c.chroma-3.ensures i);
      b = add binary32 (y i) (c.chroma-4.ensures i);
    }
