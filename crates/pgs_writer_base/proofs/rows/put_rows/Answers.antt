-- `put_rows` stores each row: the loop keeps `Storing`.
-- Assumes nothing.
use Rattle.std.proofs.Common.{rules}
use Rattle.pgs_writer_base.proofs.EachLaws.{stores, stored-past}
use native.Mathlib.Omega.{arith}
use mathlib.Core.Path.{◌∙◌}
use Rattle.pgs_writer_base.proofs.rows.put_rows.Goals as goal

pub returns-then-out-at : goal.returns-then-out-at
returns-then-out-at g c = stored-past c.args.rows.now g.W.RowWriter.fields c.args.out.now c.args.first c.loop-row.invariant c.if-out-at.true

pub loop-row-preserved : goal.loop-row-preserved
loop-row-preserved g c =
    stores c.args.rows.now g.W.RowWriter.fields c.args.out.now c.args.first c.loop-row.invariant c.loop-row-test.true
    (search rules) (c.from-at.ensures ∙ c.size.ensures)
    (omega (arith, c.if-out-at.false)) c.put.ensures
