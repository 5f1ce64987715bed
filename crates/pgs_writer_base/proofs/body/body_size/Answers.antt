-- `body_size` counts the numbers, then row after row.
-- Assumes nothing.
use Rattle.std.proofs.Common.{rules, tests, List, ap, length, length-append}
use native.Mathlib.Omega.{arith}
use Rattle.pgs_encoding.specs.Layout.{record_bytes}
use Rattle.pgs_writer_base.proofs.SumLaws.{size-outcome}
use Rattle.pgs_writer_base.proofs.body.body_size.Goals as goal

pub returns : goal.returns
returns g c =
    let fields = g.W.RowWriter.fields in
    let rows = c.args.rows.now in
    rw c.ok_or.ensures.value
    (size-outcome fields _ (λ f n x v h k. search (rules, tests)) (search rules)
    (omega (arith, c.in_ok-first.ensures, length-append c.args.numbers.now (record_bytes fields rows), ap (λ (l : List _). length (record_bytes fields l)) c.iter.ensures.rest))
    c.try_fold.ensures.ran)
