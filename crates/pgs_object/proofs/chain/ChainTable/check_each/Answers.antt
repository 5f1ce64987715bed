use Rattle.pgs_reassembly.proofs.EachLaws.{testing}
use Rattle.pgs_set.specs.Records.{records_left}
use mathlib.Core.Path.{ap, ◌∙◌}
use Rattle.pgs_object.proofs.chain.ChainTable.check_each.Goals as goal

pub loop-set-init : goal.loop-set-init
loop-set-init c =
    testing c.args.sets.stream.now c.args.sets.verdict
    (ap records_left c.into_iter-set-iterator.ensures.into_iter_gives ∙ c.records-set-items.ensures)
