-- `paint_placements` paints one after another: the loop keeps `Painting`.
-- Assumes nothing.
use Rattle.pgs_pcs.specs.Placements.{placements_left}
use Rattle.pgs_rendering.proofs.PaintLaws.{Painting}
use Rattle.pgs_render.proofs.painting.paint_placements.Given as goal

abbrev pub invariant-loop-placement : goal.invariant-loop-placement
invariant-loop-placement l =
    Painting (placements_left l.placements) (placements_left l.placement-iterator) l.bitmaps.records.now l.bitmaps.from l.bitmaps.scratch.now l.table l.size.width l.size.height l.initial.plane l.plane
