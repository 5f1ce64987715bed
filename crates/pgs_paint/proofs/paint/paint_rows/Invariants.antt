-- `paint_rows` meets its contract. The loop's invariant: the layer is over the first rows of the plane. Assumes nothing.
use Rattle.std.proofs.Common.{◌≡◌, List, ℕ, ◌+◌, take}
use Rattle.pgs_plane.specs.Placing.{image_of, table_color}
use Rattle.pgs_plane.specs.Pictures.{Layer}
use Rattle.pgs_paint.specs.Clipping.{Exactly}
use Rattle.pgs_paint.proofs.PlaneLaws.{first_rows}
use Rattle.pgs_paint.proofs.paint.paint_rows.Given as goal

abbrev pub invariant-loop-j : goal.invariant-loop-j
invariant-loop-j l =
    (t : List ℕ) → l.table.bytes.now ≡ take 1024 t → (layer : Layer) → Exactly layer l.visible (image_of l.image.size.width l.image.size.height l.image.indices.now) l.fn.size.width l.fn.size.height
    → l.plane ≡ first_rows (table_color t) layer l.fn.size.width (l.visible.y + l.j) l.initial.plane
