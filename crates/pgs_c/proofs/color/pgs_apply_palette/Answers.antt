use Rattle.pgs_c.proofs.color.pgs_apply_palette.Goals as goal

pub returns : goal.returns
returns c = c.pgs_apply_palette.ensures
