-- `Pcs::parse` delivers the placements behind the count.
-- Assumes nothing.
use Rattle.pgs_base.proofs.Outcomes.{delivered-value, passed_on}
use Rattle.pgs_pcs.proofs.PcsLaws.{placement-list}
use Rattle.pgs_records.proofs.RecordLaws.{delivered-as, refused-as}
use Rattle.pgs_pcs.proofs.pcs.Pcs.parse.Goals as goal

pub returns-in_err-n : goal.returns-in_err-n
returns-in_err-n c =
    rw (passed_on c.from_residual.result _ c.from_residual.ensures.1, placement-list c.args.body.now)
    (refused-as _ c.in_err-n.ensures)

pub returns : goal.returns
returns c =
    rw (placement-list c.args.body.now)
    (delivered-as _ (λ k. (c.numbers.ensures k, delivered-value c.in_ok-n.ensures k)) c.in_ok-n.ensures)
