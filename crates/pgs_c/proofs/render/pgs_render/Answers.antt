use Rattle.pgs_c.proofs.render.pgs_render.Goals as goal

pub returns : goal.returns
returns c = c.pgs_render.ensures
