-- Tests that numbers fit their fields. Assumes nothing.
use mathlib.Core.Path.{◌≡◌, refl}
use mathlib.Core.Bool.{Bool, true, false}
use Rattle.pgs_base.specs.Outcome.{pick}

-- a test whose two answers are the same
pub pick-neither : (t : Bool) → pick t false false ≡ false
pick-neither true = refl
pick-neither false = refl

-- a test that is its own answer
pub pick-self : (t : Bool) → t ≡ pick t true false
pick-self true = refl
pick-self false = refl
