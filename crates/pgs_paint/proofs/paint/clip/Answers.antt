-- `clip` meets its contract: on each axis `visible` found what is inside. Assumes nothing.
use Rattle.pgs_plane.specs.Placing.{image_of}
use Rattle.pgs_paint.proofs.ClipLaws.{clipped-exactly}
use Rattle.pgs_paint.proofs.paint.clip.Goals as goal

pub returns-clause-by_index : goal.returns-clause-by_index
returns-clause-by_index c =
    let args = c.args in
    λ indices.
    clipped-exactly args.placement (image_of args.object.width args.object.height indices) c.part_of-part.result _ _ _ _ c.visible.ensures c.visible-2.ensures c.part_of-part.ensures
