-- `encode_wds` tests the count; the rest is that of a body with a list.
-- Assumes nothing.
use Rattle.pgs_base.proofs.Outcomes.{passed_on}
use Rattle.pgs_base.specs.declared.refusal.Refusal.TheVariants.{NotEncodable}
use Rattle.std.proofs.Common.{rules}
use Rattle.pgs_encoding.specs.Encode.{encode}
use Rattle.pgs_writer_base.proofs.WriteKinds.{wds-many, wds-answer}
use Rattle.pgs_writer_base.proofs.WriteLaws.{TimesFit, write-35}
use Rattle.pgs_writer_base.specs.Kinds.{wds_segment}
use native.Mathlib.Omega.{arith}
use Rattle.pgs_writer_lists.proofs.wds.encode_wds.Goals.{Start}
use Rattle.pgs_writer_lists.proofs.wds.encode_wds.Goals as goal

-- the times fit their types
times_fit : (c : Start) → TimesFit c.args.times
times_fit c = search rules

pub returns-in_err-count : goal.returns-in_err-count
returns-in_err-count c =
    let t = c.args.times in
    rw (passed_on c.from_residual.result NotEncodable c.from_residual.ensures.1)
    (write-35 (encode (wds_segment t.pts t.dts c.args.windows.now)) c.args.out.now
    (wds-many t c.args.windows.now (omega (arith, c.in_err-count.ensures))))

pub returns : goal.returns
returns c =
    wds-answer c.args.times c.args.windows.now (times_fit (goal.at.returns c).Start) (omega (arith, c.in_ok-count.ensures)) (omega (arith, c.in_ok-count.ensures))
    c.encode_list.ensures
