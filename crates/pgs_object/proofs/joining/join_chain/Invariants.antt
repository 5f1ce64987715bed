use Rattle.pgs_reassembly.proofs.JoinLaws.{Joining}
use Rattle.pgs_set.specs.Segments.{set_segments_left}
use Rattle.pgs_object.proofs.joining.join_chain.Given as goal

abbrev pub invariant-loop-segment : goal.invariant-loop-segment
invariant-loop-segment l = Joining l.set.stream.now l.set.from l.id l.initial.out l.out (set_segments_left l.segment-iterator) l.k
