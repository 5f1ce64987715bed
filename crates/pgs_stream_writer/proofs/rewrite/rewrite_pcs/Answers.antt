-- `rewrite_pcs` reads the body as a PCS, and writes what was read.
-- Assumes nothing.
use Rattle.pgs_base.proofs.Bytes.{num-byte}
use Rattle.pgs_pcs.proofs.PcsLaws.{has-numbers}
use Rattle.pgs_pcs.specs.PcsBody.{placements_of}
use Rattle.pgs_stream_writer.proofs.ReadAgain.{placements-read, never-refused, room, front, front_length, written-again, same_write, marked}
use native.Mathlib.Omega.{arith}
use Rattle.pgs_stream_writer.proofs.rewrite.rewrite_pcs.Goals as goal

pub returns-in_err-pcs : goal.returns-in_err-pcs
returns-in_err-pcs c =
    let b = c.args.body.now in
    let long = has-numbers b c.requires in
    absurd
    (never-refused (placements-read c.args.times b) c.requires (omega (arith, num-byte 10 b (omega arith), (c.type_inv.body 10).fits)) c.in_err-pcs.ensures)

pub slice_bounds-placements-end : goal.slice_bounds-placements-end
slice_bounds-placements-end c = room (placements-read c.args.times c.args.body.now) c.in_ok-pcs.ensures

pub slice_bounds-encode_pcs-end : goal.slice_bounds-encode_pcs-end
slice_bounds-encode_pcs-end c = front_length (placements-read c.args.times c.args.body.now) c.in_ok-pcs.ensures

pub returns : goal.returns
returns c =
    let b = c.args.body.now in
    let l = placements-read c.args.times b in
    let fits = marked c.args.times c.in_ok-pcs.pcs (placements_of b) (front l c.in_ok-pcs.ensures) in
    same_write (written-again l c.in_ok-pcs.ensures) (rw fits at c.encode_pcs.ensures)
