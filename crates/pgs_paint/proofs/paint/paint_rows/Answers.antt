-- `paint_rows` meets its contract. The loop's invariant: the layer is over the first rows of the plane. Assumes nothing.
use Rattle.std.proofs.Common.{◌≡◌, ◌∙◌, sym, ap, ℕ, ◌+◌, ◌*◌, arith}
use native.Mathlib.Nat.{mul-add, mul_assoc}
use Rattle.pgs_paint.proofs.PlaneLaws.{Room, room, row_laid, rows-begin, rows_end}
use Rattle.pgs_paint.proofs.paint.paint_rows.Goals.{In-loop-j}
use Rattle.pgs_paint.proofs.paint.paint_rows.Goals as goal

-- the places of this turn's row
here : (c : In-loop-j) → Room c.args.visible c.args.image.size.width c.args.image.size.height c.args.size.width c.args.size.height c.loop-j.j
here c =
    let pre = c.requires in
    room pre.bounds pre.some_columns (omega (arith, c.loop-j-test.true, c.from-j-end.ensures))

-- where it begins on the plane, in bytes
target : (w n x : ℕ) {place : ℕ} → place ≡ w * n + x → 4 * place ≡ 4 * w * n + 4 * x
target w n x e = ap (λ (k : ℕ). 4 * k) e ∙ mul-add 4 (w * n) x ∙ ap (λ (k : ℕ). k + 4 * x) (sym (mul_assoc 4 w n))

pub loop-j-init : goal.loop-j-init
loop-j-init c = λ t front layer e. rows-begin _ layer _ _ _ _ e _

pub slice_bounds-paint_row-end : goal.slice_bounds-paint_row-end
slice_bounds-paint_row-end c =
    rw (c.from-columns.ensures, c.place-from.ensures) (omega (arith, here (goal.at.slice_bounds-paint_row-end c).In-loop-j, c.requires))

pub slice_bounds-paint_row-end-in-loop-j : goal.slice_bounds-paint_row-end-in-loop-j
slice_bounds-paint_row-end-in-loop-j c =
    let args = c.args in
    rw (c.from-columns.ensures, target args.size.width (args.visible.y + c.loop-j.j) args.visible.x c.place-to.ensures)
    (omega (arith, here (goal.at.slice_bounds-paint_row-end-in-loop-j c).In-loop-j, c.requires))

pub loop-j-preserved : goal.loop-j-preserved
loop-j-preserved c =
    let args = c.args in
    let pre = c.requires in
    let visible = args.visible in
    let loop = c.loop-j in
    let columns = c.from-columns.ensures in
    let from = c.place-from.ensures in
    let to = target args.size.width (visible.y + loop.j) visible.x c.place-to.ensures in
    λ t front layer e.
    rw (columns, to)
    (row_laid t args.image.indices.now args.plane.now loop.plane c.paint_row.new.row visible args.image.size.width
    args.image.size.height args.size.width args.size.height loop.j (here (goal.at.loop-j-preserved c).In-loop-j)
    (omega (arith, c.loop-j-test.true, c.from-j-end.ensures)) pre.image_room pre.plane_room loop.auto.plane
    (rw (columns, from) at (c.paint_row.ensures t front)) layer e (loop.invariant t front layer e))

pub returns : goal.returns
returns c =
    let loop = c.loop-j in
    let inside = (c.requires.bounds.rows_inside c.requires.some_rows).1 in
    let last = c.from-j-end.ensures in
    λ t front layer e.
    loop.invariant t front layer e
    ∙ rows_end _ layer c.args.visible _ _ _ e _ loop.j inside (omega (arith, loop.auto.j-end, last)) (omega (arith, c.loop-j-test.false, last))
