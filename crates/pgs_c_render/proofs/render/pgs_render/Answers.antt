-- `pgs_render` passes the layer's answer on, with what is shown as cells.
-- Assumes nothing.
use Rattle.pgs_c_told.proofs.ToldLaws.{told-mapped}
use Rattle.pgs_c_render.specs.Render.{render_call_verdict, shown_cells}
use Rattle.pgs_rendering.specs.Rendering.{answer_of}
use Rattle.pgs_set.specs.Sets.{set_number}
use Rattle.pgs_c_render.proofs.render.pgs_render.Goals as goal

pub returns : goal.returns
returns c =
    let s = c.args.stream.now in
    let k = c.args.set in
    let d = c.render.ensures in
    let t = told-mapped shown_cells (λ y z h. h) (render_call_verdict s k c.args.scratch.now c.args.plane.now) (answer_of (set_number k s))
    c.render.result c.map.result c.args.shown.now d.answered c.map.ensures.cases c.stored.ensures.value c.stored.ensures.cell_after in
    record { code = t.0; stored = d.stored; painted = d.shown; answered = t.1 }
