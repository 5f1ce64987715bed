use Rattle.pgs_rendering.proofs.StoreLaws.{Storing}
use Rattle.pgs_render.proofs.listed_set.ListedSet.store_bitmaps.Given as goal

abbrev pub invariant-loop-record : goal.invariant-loop-record
invariant-loop-record l = Storing l.self.set.stream.now l.self.records.now l.from l.initial.scratch l.scratch l.record-index l.at
