-- `paint_row` meets its contract. The loop's invariant: so many colours stand at the front of the row. Assumes nothing.
use Rattle.std.proofs.Common.{◌≡◌, ◌++◌, ◌*◌, drop}
use Rattle.pgs_plane.specs.Strips.{strip}
use Rattle.pgs_paint.proofs.RowLaws.{colors}
use Rattle.pgs_paint.proofs.paint.paint_row.Given as goal

abbrev pub invariant-loop-i : goal.invariant-loop-i
invariant-loop-i l = l.row ≡ strip (colors l.table.bytes.now l.pixels) 0 l.i ++ drop (4 * l.i) l.initial.row
