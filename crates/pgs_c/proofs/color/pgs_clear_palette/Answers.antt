use Rattle.pgs_c.proofs.color.pgs_clear_palette.Goals as goal

pub returns : goal.returns
returns c = c.pgs_clear_palette.ensures
