use Rattle.pgs_c.proofs.writing.pgs_encode_other.Goals as goal

pub returns : goal.returns
returns c = c.pgs_encode_other.ensures
