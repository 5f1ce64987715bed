-- `placed_set`: a set begins at the place of the record that `find_set` answers.
-- Assumes nothing.
use Rattle.pgs_set.proofs.NumberLaws.{stands-begins}
use mathlib.Core.Path.{refl}
use Rattle.pgs_set.proofs.set.placed_set.Goals as goal

pub invariant_of-result : goal.invariant_of-result
invariant_of-result c = record { begins = stands-begins c.args.s.now c.args.k (c.in_ok-place.ensures.stands _ refl) }
