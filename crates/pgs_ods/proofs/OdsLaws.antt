-- How testing and reading an ODS body end, over its bytes. Assumes nothing.
use mathlib.Core.Path.{◌≡◌}
use mathlib.Core.List.{List}
use Prim.Native.Nat.{ℕ, ◌≤◌}
use borrow.Author.Tests.{leb-true}
use lib.Dec.{leb}
use lib.ListN.{length}
use Rattle.pgs_base.specs.Outcome.{accepted, unless}
use Rattle.pgs_base.proofs.Outcomes.{first_holds, second_holds, holds}
use Rattle.pgs_ods.specs.OdsBody.{flag_of, head_size, ods_verdict}

module _ (b : List ℕ) where
  -- an accepted body has its numbers, the dimensions among them
  pub has-head : ods_verdict b ≡ accepted → 7 ≤ length b
  has-head e = leb-true 7 (length b) (first_holds 4 (leb 7 (length b)) _ e)

  pub has-dimensions : ods_verdict b ≡ accepted → head_size (flag_of b) ≤ length b
  has-dimensions e = leb-true _ _ (holds 4 _ (second_holds (unless 4 (leb 7 (length b))) _ e))
