-- `count_segments` reads on until the end or a refusal: the loop keeps `Counting`.
-- Assumes nothing.
use Rattle.pgs_stream.proofs.StreamLaws.{Counting}
use lib.ListN.{length}
use Rattle.pgs_stream.proofs.stream.count_segments.Given as goal

abbrev pub invariant-loop-rest : goal.invariant-loop-rest
invariant-loop-rest l = Counting l.s l.rest l.n

abbrev pub decreases-loop-rest : goal.decreases-loop-rest
decreases-loop-rest l = length l.rest
