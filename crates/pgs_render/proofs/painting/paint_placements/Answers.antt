-- `paint_placements` paints one after another: the loop keeps `Painting`.
-- Assumes nothing.
use native.Mathlib.Omega.{arith}
use Rattle.pgs_rendering.proofs.PaintLaws.{paints-found, paints-on, there-by}
use Rattle.pgs_render.proofs.painting.paint_placements.Goals as goal

pub unwrap-image-requires : goal.unwrap-image-requires
unwrap-image-requires c =
    let f = paints-found c.loop-placement.invariant c.in-Some.ensures.steps c.args.bitmaps.room in
    there-by _ c.get.result c.get.ensures (λ e. let k = f.itself in let q = e in cc)

pub loop-placement-preserved : goal.loop-placement-preserved
loop-placement-preserved c =
    paints-on c.loop-placement.invariant c.in-Some.ensures.steps c.args.bitmaps.room (rw c.unwrap-image.ensures at c.get.ensures) (omega arith) c.requires.in_bounds
    c.paint_placement.ensures c.paint_placement.auto.plane
