use Rattle.pgs_set.specs.Sets.{sets_of}
use mathlib.Core.Path.{refl}
use Rattle.pgs_set.proofs.display_sets.DisplaySets.records.Goals as goal

pub returns : goal.returns
unfolding sets_of
returns c = refl
