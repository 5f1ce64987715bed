-- `eight_literals` tests the bytes one after another. Assumes nothing.
use Rattle.std.proofs.Common.{rules, ◌≡◌, ◌∙◌, true, take}
use Rattle.std.specs.List.{fold}
use Rattle.std.proofs.lemmas.Iterator.{YieldsList-from_slice}
use Rattle.std.proofs.lemmas.Iterator.Consumers.{fold_from_yields_List}
use Rattle.pgs_run_length.proofs.LiteralBytes.{and_nonzero, literals-folded}
use Rattle.pgs_run_length.proofs.code.eight_literals.Goals as goal

pub returns : goal.returns
returns c =
    let first = c.in-Some.ensures.cases in
    let items : c.iter.result.rest.now ≡ take 8 c.args.data.now = search rules in
    let e : c.fold.result ≡ fold and_nonzero true (take 8 c.args.data.now)
    = fold_from_yields_List _ and_nonzero true _ c.fold.ensures.ran (YieldsList-from_slice _ items) (λ all byte next q step. search rules) in
    e ∙ literals-folded c.args.data.now 8 first.enough
