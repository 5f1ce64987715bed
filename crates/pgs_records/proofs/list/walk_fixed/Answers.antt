-- `walk_fixed` tests the bytes of all records at once.
-- Assumes nothing.
use Rattle.pgs_records.proofs.RecordLaws.{fixed-fit, fixed-cut}
use native.Mathlib.Omega.{arith}
use Rattle.pgs_records.proofs.list.walk_fixed.Goals as goal

pub returns-in-Some : goal.returns-in-Some
returns-in-Some c = fixed-fit c.args.size c.args.n c.args.l.now c.in-Some.ensures.1 c.if-len-l.true

pub returns-in_default : goal.returns-in_default
returns-in_default c = fixed-cut c.args.size c.args.n c.args.l.now (omega (arith, c.in-Some.ensures.1, c.if-len-l.false))

pub returns-in_default-2 : goal.returns-in_default-2
returns-in_default-2 c = fixed-cut c.args.size c.args.n c.args.l.now (omega (arith, c.in_default.ensures))
