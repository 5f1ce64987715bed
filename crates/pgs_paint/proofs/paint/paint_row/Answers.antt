-- `paint_row` meets its contract. The loop's invariant: so many colours stand at the front of the row. Assumes nothing.
use Rattle.std.proofs.Common.{◌≡◌, ◌∙◌, ap, ◌+◌, ◌-◌, ◌*◌, List, ℕ, length, arith}
use Rattle.pgs_plane.specs.Strips.{strip}
use Rattle.pgs_paint.proofs.RowLaws.{colors, row-begins, pixel-stored, row-ends, front-colors}
use Rattle.pgs_paint.proofs.paint.paint_row.Goals as goal

pub loop-i-init : goal.loop-i-init
loop-i-init c =
    let args = c.args in
    row-begins args.table.bytes.now args.pixels.now args.row.now

pub loop-i-preserved : goal.loop-i-preserved
loop-i-preserved c =
    let loop = c.loop-i in
    let args = c.args in
    let four : 4 * loop.i + 4 - 4 * loop.i ≡ 4 = omega arith in
    rw (c.copy_from_slice.ensures.after, c.from.ensures, four)
    (pixel-stored args.table.bytes.now args.pixels.now args.row.now loop.row loop.i loop.auto.row loop.invariant
    c.color.result c.color.ensures (omega arith))

pub returns : goal.returns
returns c =
    let args = c.args in
    let pixels = args.pixels.now in
    let loop = c.loop-i in
    let stored : c.loop-i.row ≡ strip (colors args.table.bytes.now pixels) 0 (length pixels) =
    row-ends args.table.bytes.now pixels args.row.now loop.row loop.i loop.auto.row loop.invariant (length pixels) (omega arith) (omega arith) in
    λ t front.
    stored
    ∙ ap (λ (l : List ℕ). strip (colors l pixels) 0 (length pixels)) front
    ∙ front-colors t pixels (length pixels) (λ k. (c.type_inv.pixels k).fits)
