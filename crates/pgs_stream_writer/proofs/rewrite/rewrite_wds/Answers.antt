-- `rewrite_wds` reads the body as a WDS, and writes what was read.
-- Assumes nothing.
use Rattle.pgs_base.proofs.Bytes.{num-byte}
use Rattle.pgs_wds.proofs.WdsLaws.{has-count}
use Rattle.pgs_stream_writer.proofs.ReadAgain.{windows-read, never-refused, room, front_length, written-again, same_write}
use native.Mathlib.Omega.{arith}
use Rattle.pgs_stream_writer.proofs.rewrite.rewrite_wds.Goals as goal

pub returns-in_err-n : goal.returns-in_err-n
returns-in_err-n c =
    let b = c.args.body.now in
    absurd
    (never-refused (windows-read c.args.times b) c.requires (omega (arith, num-byte 0 b (has-count b c.requires), (c.type_inv.body 0).fits)) c.in_err-n.ensures)

pub slice_bounds-windows-end : goal.slice_bounds-windows-end
slice_bounds-windows-end c = room (windows-read c.args.times c.args.body.now) c.in_ok-n.ensures

pub slice_bounds-encode_wds-end : goal.slice_bounds-encode_wds-end
slice_bounds-encode_wds-end c = front_length (windows-read c.args.times c.args.body.now) c.in_ok-n.ensures

pub returns : goal.returns
returns c = same_write (written-again (windows-read c.args.times c.args.body.now) c.in_ok-n.ensures) c.encode_wds.ensures
