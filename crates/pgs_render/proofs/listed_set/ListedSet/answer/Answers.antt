-- `answer` takes the size from the numbers of the PCS, and the PTS from its head.
-- Assumes nothing.
use Rattle.pgs_rendering.proofs.OpeningLaws.{placed-time}
use Rattle.pgs_render.proofs.listed_set.ListedSet.answer.Goals as goal

pub returns : goal.returns
returns c =
    let numbers = c.composition-numbers.ensures in
    let time = placed-time c.args.self.set c.split_first.ensures.pcs_value in
    λ j. record { size = record { width = (numbers j).width; height = (numbers j).height }; pts = time j }
