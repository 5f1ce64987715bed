use Rattle.pgs_c.proofs.sets.pgs_reassemble_objects.Goals as goal

pub returns : goal.returns
returns c = c.pgs_reassemble_objects.ensures
