use Rattle.std.proofs.Common.{◌∙◌, ap, rules, tests}
use Rattle.std.proofs.lemmas.Iterator.{IsFirst-from_position, YieldsList-from_slice}
use Rattle.pgs_reassembly.proofs.TableLaws.{first-row, Has, Lacks}
use Rattle.pgs_reassembly.specs.Tables.{row_with}
use Rattle.pgs_object.proofs.chain.ChainTable.find.Goals as goal

pub returns : goal.returns
returns c =
    let id = c.args.id in
    first-row id c.chains.result.now c.position.result
    (IsFirst-from_position _ _ _ (Has id) (Lacks id) c.position.ensures.ran (YieldsList-from_slice c.chains.result.now cc)
    (λ x q k. search (rules, tests)) (λ x q k. search (rules, tests)))
    ∙ ap (row_with id) c.chains.ensures
