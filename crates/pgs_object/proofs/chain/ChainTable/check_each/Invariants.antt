use Rattle.pgs_reassembly.proofs.EachLaws.{Testing}
use Rattle.pgs_set.specs.Records.{records_left}
use Rattle.pgs_object.proofs.chain.ChainTable.check_each.Given as goal

abbrev pub invariant-loop-set : goal.invariant-loop-set
invariant-loop-set l = Testing l.sets.stream.now (records_left l.set-iterator)
