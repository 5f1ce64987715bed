-- A choice by a test whose answer is known. Assumes nothing.
use mathlib.Core.Path.{◌≡◌, ap}
use mathlib.Core.Bool.{Bool, true, false}
use Rattle.pgs_base.specs.Outcome.{pick}

module _ {A : Type 0} {b : Bool} (x y : A) where
  pub pick_first : b ≡ true → pick b x y ≡ x
  pick_first e = ap (λ (t : Bool). pick t x y) e

  pub pick_second : b ≡ false → pick b x y ≡ y
  pick_second e = ap (λ (t : Bool). pick t x y) e
