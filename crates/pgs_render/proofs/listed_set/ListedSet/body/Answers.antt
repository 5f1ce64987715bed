-- `body` is that of the PCS that stands at the set's place.
-- Assumes nothing.
use Rattle.pgs_rendering.proofs.OpeningLaws.{placed-body}
use Rattle.pgs_render.proofs.listed_set.ListedSet.body.Goals as goal

pub returns : goal.returns
returns c = placed-body c.args.self.set c.split_first.ensures.pcs_value c.body.ensures
