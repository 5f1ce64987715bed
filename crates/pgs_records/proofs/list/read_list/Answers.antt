-- `read_list` walks, then tests the room, then stores.
-- Assumes nothing.
use Rattle.pgs_base.proofs.Outcomes.{gave, delivers-short}
use Rattle.pgs_records.proofs.RecordLaws.{rows-length}
use native.Mathlib.Omega.{arith}
use Rattle.pgs_records.proofs.list.read_list.Goals as goal

pub returns-then-list-n : goal.returns-then-list-n
returns-then-list-n g c =
    let r = g.R.ListRecord in
    delivers-short (gave _ _ c.in_ok-walk.ensures) (omega (arith, rows-length r.to_row r.value r.size c.args.n c.args.l.now, c.if-list-n.true))
