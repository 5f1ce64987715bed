use Rattle.pgs_c.proofs.sets.pgs_parse_display_sets.Goals as goal

pub returns : goal.returns
returns c = c.pgs_parse_display_sets.ensures
