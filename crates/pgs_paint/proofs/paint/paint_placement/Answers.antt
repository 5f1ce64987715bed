-- `paint_placement` meets its contract: what it stores is painted, also where no column or no row is on the plane. Assumes nothing.
use Rattle.std.proofs.Common.{sym, length, ◌≤◌, arith}
use borrow.Author.Tests.{leb-true}
use Rattle.pgs_base.proofs.Outcomes.{holds}
use Rattle.pgs_plane.specs.Placing.{image_of, table_color}
use Rattle.pgs_plane.proofs.CallLaws.{changes, all-fit}
use Rattle.pgs_paint.proofs.PlaneLaws.{no-columns, no-rows-shown}
use Rattle.pgs_paint.proofs.paint.paint_placement.Goals.{In_ok-table, then-visible-eq0-via-then-visible-eq0, then-visible-eq0-via-else-visible-eq0+then-visible-eq0-2}
use Rattle.pgs_paint.proofs.paint.paint_placement.Goals as goal

-- the table has a pixel for each index
table-room : (c : In_ok-table) → 1024 ≤ length c.args.table.now
table-room c = leb-true 1024 (length c.args.table.now) (holds 34 _ (sym c.in_ok-table.ensures.verdict))

pub returns-then-visible-eq0 : goal.returns-then-visible-eq0
returns-then-visible-eq0 c =
    let args = c.args in
    let size = args.size in
    let image = image_of args.image.size.width args.image.size.height args.image.indices.now in
    let exactly = c.clip-visible.ensures.by_index args.image.indices.now in
    changes
    (all-fit image args.table.now size.width size.height args.plane.now
    (omega arith) (table-room (goal.at.returns-then-visible-eq0 c).In_ok-table) (omega arith))
    (elim c.then-visible-eq0.branch [
      | then-visible-eq0-via-then-visible-eq0 w ↦
          no-columns (table_color args.table.now) _ c.clip-visible.result image size.width size.height exactly args.plane.now w.if-visible-eq0.true
      | then-visible-eq0-via-else-visible-eq0+then-visible-eq0-2 w ↦
          no-rows-shown (table_color args.table.now) _ c.clip-visible.result image size.width size.height exactly args.plane.now w.if-visible-eq0-2.true
    ])
