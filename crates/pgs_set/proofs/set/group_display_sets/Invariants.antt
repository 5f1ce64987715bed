use Rattle.pgs_set.proofs.SetLaws.{Counting}
use lib.ListN.{length}
use Rattle.pgs_set.proofs.set.group_display_sets.Given as goal

abbrev pub invariant-loop-rest : goal.invariant-loop-rest
invariant-loop-rest l = Counting l.s l.state l.rest l.n

abbrev pub decreases-loop-rest : goal.decreases-loop-rest
decreases-loop-rest l = length l.rest
