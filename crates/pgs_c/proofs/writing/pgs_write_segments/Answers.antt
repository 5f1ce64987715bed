use Rattle.pgs_c.proofs.writing.pgs_write_segments.Goals as goal

pub returns : goal.returns
returns c = c.pgs_write_segments.ensures
