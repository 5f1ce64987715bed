-- `put_bytes` stores the bytes that have room, or none.
-- Assumes nothing.
use Rattle.std.proofs.Common.{◌≡◌, ◌+◌, ◌-◌, arith}
use Rattle.pgs_writer_base.proofs.PutLaws.{sets-out, sets-trim}
use Rattle.pgs_writer_base.proofs.put.put_bytes.Goals as goal

pub returns-then-at-out : goal.returns-then-at-out
returns-then-at-out c =
    let n = c.min-n.result in
    let size : c.args.at + n - c.args.at ≡ n = omega arith in
    rw (c.copy.ensures, size)
    (sets-trim c.args.out.now c.args.at c.args.bytes.now (omega arith) c.min-n.ensures)

pub returns-else-at-out : goal.returns-else-at-out
returns-else-at-out c = sets-out c.args.out.now c.args.at c.args.bytes.now c.if-at-out.false
