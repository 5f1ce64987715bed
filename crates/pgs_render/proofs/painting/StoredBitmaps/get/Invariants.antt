use Rattle.pgs_rendering.proofs.PaintLaws.{Seeing}
use Rattle.pgs_render.proofs.painting.StoredBitmaps.get.Given as goal

abbrev pub invariant-loop-record : goal.invariant-loop-record
invariant-loop-record l = Seeing l.self.records.now l.self.scratch.now l.self.from l.id l.record-index l.at
