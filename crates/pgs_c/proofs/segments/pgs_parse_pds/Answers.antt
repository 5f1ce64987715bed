use Rattle.pgs_c.proofs.segments.pgs_parse_pds.Goals as goal

pub returns : goal.returns
returns c = c.pgs_parse_pds.ensures
