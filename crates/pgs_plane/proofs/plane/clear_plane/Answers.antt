-- `clear_plane` stores 0 in each byte of the plane, and leaves what is behind them. Assumes nothing.
use Rattle.std.proofs.Common.{arith}
use borrow.Author.Tests.{le-leb}
use Rattle.pgs_plane.proofs.CallLaws.{changes, cleared-end}
use Rattle.pgs_plane.proofs.plane.clear_plane.Goals as goal

pub returns : goal.returns
returns c =
    let args = c.args in
    let size = args.size in
    changes (le-leb _ _ (omega arith))
    (cleared-end size.width size.height c.plane_bytes-need.result args.plane.now c.plane_bytes-need.ensures c.if-plane-need.false (c.fill.ensures.after (λ y e. e)))
