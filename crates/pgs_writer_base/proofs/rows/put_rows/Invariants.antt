-- `put_rows` stores each row: the loop keeps `Storing`.
-- Assumes nothing.
use Rattle.pgs_writer_base.proofs.EachLaws.{Storing}
use Rattle.pgs_writer_base.proofs.rows.put_rows.Given as goal

abbrev pub invariant-loop-row : goal.invariant-loop-row
invariant-loop-row g l = Storing l.rows g.W.RowWriter.fields l.initial.out l.first l.out l.row-index l.at
