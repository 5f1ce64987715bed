use Rattle.pgs_c.proofs.writing.pgs_encode_end.Goals as goal

pub returns : goal.returns
returns c = c.pgs_encode_end.ensures
