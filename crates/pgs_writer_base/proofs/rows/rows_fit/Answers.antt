-- `rows_fit` tests each row.
-- Assumes nothing.
use Rattle.std.proofs.Common.{rules, tests}
use Rattle.std.proofs.lemmas.Iterator.{YieldsList-from_slice}
use Rattle.std.proofs.lemmas.Iterator.Search.{all_from_yields_List}
use Rattle.pgs_writer_base.proofs.EachLaws.{each-all}
use mathlib.Core.Path.{◌∙◌}
use Rattle.pgs_writer_base.proofs.rows.rows_fit.Goals as goal

pub returns : goal.returns
returns g c =
    let fits = g.W.RowWriter.fits in
    all_from_yields_List fits _ _ c.all.result c.all.ensures.ran (YieldsList-from_slice c.args.rows.now c.iter.ensures.rest) (λ x b q k. search (rules, tests))
    ∙ each-all fits c.args.rows.now
