-- `encode_pcs` tests the count; the rest is that of a body with a list.
-- Assumes nothing.
use Rattle.pgs_base.proofs.Outcomes.{passed_on}
use Rattle.pgs_base.specs.declared.refusal.Refusal.TheVariants.{NotEncodable}
use Rattle.std.proofs.Common.{rules}
use Rattle.pgs_encoding.specs.Encode.{encode}
use Rattle.pgs_writer_base.proofs.PlacementLaws.{PcsFits, pcs-many, pcs-answer}
use Rattle.pgs_writer_base.proofs.WriteLaws.{TimesFit, write-35}
use Rattle.pgs_writer_base.specs.Kinds.{pcs_segment}
use native.Mathlib.Omega.{arith}
use Rattle.pgs_writer_pcs.proofs.pcs.encode_pcs.Goals.{Start}
use Rattle.pgs_writer_pcs.proofs.pcs.encode_pcs.Goals as goal

-- the times and the numbers fit their types
times_fit : (c : Start) → TimesFit c.args.times
times_fit c = search rules

numbers : (c : Start) → PcsFits c.args.pcs
numbers c = search rules

pub returns-in_err-count : goal.returns-in_err-count
returns-in_err-count c =
    let t = c.args.times in
    rw (passed_on c.from_residual.result NotEncodable c.from_residual.ensures.1)
    (write-35 (encode (pcs_segment t.pts t.dts c.args.pcs c.args.placements.now)) c.args.out.now
    (pcs-many t c.args.pcs c.args.placements.now (numbers (goal.at.returns-in_err-count c).Start) (omega (arith, c.in_err-count.ensures))))

pub returns : goal.returns
returns c =
    let s = (goal.at.returns c).Start in
    pcs-answer c.args.times c.args.pcs c.args.placements.now (times_fit s) (numbers s) (omega (arith, c.in_ok-count.ensures)) (omega (arith, c.in_ok-count.ensures))
    c.pcs_bytes.ensures c.encode_list.ensures
