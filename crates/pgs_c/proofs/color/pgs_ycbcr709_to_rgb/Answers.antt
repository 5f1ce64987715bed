use Rattle.pgs_c.proofs.color.pgs_ycbcr709_to_rgb.Goals as goal

pub returns : goal.returns
returns c = c.pgs_ycbcr709_to_rgb.ensures
