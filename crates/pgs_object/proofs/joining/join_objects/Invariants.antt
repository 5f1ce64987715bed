use Rattle.pgs_reassembly.proofs.JoinLaws.{Placing}
use Rattle.pgs_object.proofs.joining.join_objects.Given as goal

abbrev pub invariant-loop-row : goal.invariant-loop-row
invariant-loop-row l = Placing l.s l.rows l.initial.scratch l.scratch l.row-index l.at
