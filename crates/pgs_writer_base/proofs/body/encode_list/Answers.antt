-- `encode_list` tests the rows and the size, then stores the front, then the rows.
-- Assumes nothing.
use Rattle.std.proofs.Common.{◌∙◌, sym}
use Rattle.pgs_base.proofs.Outcomes.{gave-value, passed_on}
use Rattle.pgs_encoding.specs.Layout.{record_bytes}
use Rattle.pgs_writer_base.proofs.BodyLaws.{list-fit, front-short, front-then}
use Rattle.pgs_writer_base.proofs.body.encode_list.Goals as goal

pub returns-in_err-total : goal.returns-in_err-total
returns-in_err-total g c =
    let b = c.args.numbers.now in
    let w = g.W.RowWriter in
    rw (passed_on c.from_residual-in_err-total.result _ c.from_residual-in_err-total.ensures.1)
    (front-short c.args.times c.args.kind b (record_bytes w.fields c.args.rows.now) c.args.out.now
    (list-fit w.fields w.fits b c.args.rows.now c.in_ok-size.ensures (sym c.rows_fit.ensures ∙ c.if-not-rows_fit.false))
    (gave-value _ _ c.in_ok-size.ensures) c.in_err-total.ensures.result_value c.in_err-total.ensures.out_after)

pub returns : goal.returns
returns g c =
    let b = c.args.numbers.now in
    let w = g.W.RowWriter in
    front-then c.args.times c.args.kind b (record_bytes w.fields c.args.rows.now) c.args.out.now
    (list-fit w.fields w.fits b c.args.rows.now c.in_ok-size.ensures (sym c.rows_fit.ensures ∙ c.if-not-rows_fit.false))
    (gave-value _ _ c.in_ok-size.ensures) c.in_ok-total.ensures.result_value c.in_ok-total.ensures.out_after c.put_rows.ensures
