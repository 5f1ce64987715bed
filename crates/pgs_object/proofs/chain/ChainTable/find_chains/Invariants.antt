use Rattle.pgs_reassembly.proofs.FindLaws.{Finding}
use Rattle.pgs_set.specs.Segments.{set_segments_left}
use Rattle.pgs_object.proofs.chain.ChainTable.find_chains.Given as goal

abbrev pub invariant-loop-segment : goal.invariant-loop-segment
invariant-loop-segment l = Finding l.set.stream.now l.set.from l.self (set_segments_left l.segment-iterator)
