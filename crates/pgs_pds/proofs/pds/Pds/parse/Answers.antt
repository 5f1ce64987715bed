-- `Pds::parse` delivers the entries of a body that was tested.
-- Assumes nothing.
use Rattle.pgs_base.proofs.Outcomes.{delivered-value, passed_on}
use Rattle.pgs_pds.proofs.PdsLaws.{count-is, entries-delivered}
use Rattle.pgs_pds.specs.PdsBody.{entry_count}
use Rattle.pgs_records.proofs.RecordLaws.{delivered-as, refused-as}
use mathlib.Core.Path.{◌≡◌, ◌∙◌}
use Rattle.pgs_pds.proofs.pds.Pds.parse.Goals as goal

pub returns-in_err-n : goal.returns-in_err-n
returns-in_err-n c =
    rw (passed_on c.from_residual-in_err-n.result _ c.from_residual-in_err-n.ensures.1)
    (refused-as _ (entries-delivered c.args.body.now c.in_ok-list.ensures c.in_err-n.ensures))

pub returns : goal.returns
returns c =
    let b = c.args.body.now in
    let n : c.in_ok-n.n ≡ entry_count b = delivered-value c.in_ok-n.ensures ∙ count-is b c.in_ok-list.ensures in
    delivered-as _ (λ k. (c.numbers.ensures k, n k)) (entries-delivered b c.in_ok-list.ensures c.in_ok-n.ensures)
