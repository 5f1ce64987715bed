use Rattle.pgs_c.proofs.bitmap.pgs_decode_rle.Goals as goal

pub returns : goal.returns
returns c = c.pgs_decode_rle.ensures
