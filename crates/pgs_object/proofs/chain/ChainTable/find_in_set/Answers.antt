use Rattle.pgs_reassembly.proofs.ObjectLaws.{tests-end}
use Rattle.pgs_set.proofs.OpenLaws.{is-open}
use mathlib.Core.Path.{refl, ap, ◌∙◌}
use Rattle.pgs_reassembly.specs.Tables.{rows_verdict}
use Rattle.pgs_object.proofs.chain.ChainTable.find_in_set.Goals as goal

pub returns : goal.returns
returns c =
    let set = c.args.set in
    tests-end set.stream.now (is-open set.stream.now set.from set.in_set) c.in_ok-find_chains.ensures.chains c.in_ok-find_chains.ensures.small refl
    (c.check_chains.ensures ∙ ap rows_verdict c.chains.ensures)
