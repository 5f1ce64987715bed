use Rattle.pgs_rendering.proofs.RecordLaws.{Reading}
use Rattle.pgs_render.proofs.listed_set.ListedSet.check_bitmaps.Given as goal

abbrev pub invariant-loop-record : goal.invariant-loop-record
invariant-loop-record l = Reading l.self.set.stream.now l.scratch l.self.records.now l.record-index
