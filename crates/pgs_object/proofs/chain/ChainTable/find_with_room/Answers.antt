-- `find_with_room` finds the objects, then tests the room.
-- Assumes nothing.
use Rattle.pgs_base.proofs.Outcomes.{passed_verdict}
use Rattle.pgs_reassembly.proofs.ObjectLaws.{unlisted, no_room, with-room}
use mathlib.Core.Path.{ap}
use native.Mathlib.Omega.{arith}
use lib.ListN.{length}
use Rattle.pgs_object.proofs.chain.ChainTable.find_with_room.Goals as goal

pub returns-in_err-find_in_set : goal.returns-in_err-find_in_set
returns-in_err-find_in_set c =
    rw (passed_verdict c.from_residual.result _ c.from_residual.ensures.1) (unlisted _ _ c.args.room c.in_err-find_in_set.ensures)

pub returns-then-room-chains : goal.returns-then-room-chains
returns-then-room-chains c =
    no_room _ _ c.args.room c.in_ok-find_in_set.ensures (omega (arith, ap length c.chains.ensures, c.if-room-chains.true))

pub returns : goal.returns
returns c =
    with-room _ _ c.args.room c.in_ok-find_in_set.ensures (omega (arith, ap length c.chains.ensures, c.if-room-chains.false))
