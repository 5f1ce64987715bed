-- How testing and reading a PCS body end, over its bytes, and that a crop is told by its cells. Assumes nothing.
use mathlib.Core.Path.{◌≡◌, refl}
use mathlib.Core.Bool.{true}
use mathlib.Core.List.{List, ◌∷◌, map}
use Prim.Native.Nat.{ℕ, ◌≤◌}
use borrow.Author.Tests.{leb-true}
use lib.Dec.{leb}
use lib.ListN.{length, drop}
use Rattle.pgs_base.specs.Outcome.{accepted, unless}
use Rattle.pgs_base.proofs.Outcomes.{first_holds, second_holds, holds}
use Rattle.pgs_records.specs.Records.{records_fit}
use Rattle.pgs_pcs.specs.PcsBody.{placement_size, crop_cells, crop_from}
use Rattle.pgs_pcs.specs.PcsBody.{placement_row, placements_of, placement_rows, placement_count}
use Rattle.pgs_pcs.specs.PcsBody.{pcs_verdict}
use Rattle.pgs_pcs.specs.declared.pcs.CompositionObjectCrop.{CompositionObjectCrop}
use Rattle.std.specs.Prelude.{Option, None, Some}

-- a crop is told by its cells
pub crop-back : (a b c d e : ℕ) (k : Option CompositionObjectCrop) → crop_from (a ∷ b ∷ c ∷ d ∷ e ∷ crop_cells k) ≡ k
crop-back a b c d e None = refl
crop-back a b c d e (Some crop) = refl

module _ (b : List ℕ) where
  -- an accepted body has its numbers and its placements
  pub has-numbers : pcs_verdict b ≡ accepted → 11 ≤ length b
  has-numbers e = leb-true 11 (length b) (first_holds 4 (leb 11 (length b)) _ e)

  pub has-placements : pcs_verdict b ≡ accepted → records_fit placement_size (placement_count b) (drop 11 b) ≡ true
  has-placements e = holds 4 _ (second_holds (unless 4 (leb 11 (length b))) _ e)

  pub placement-list : placement_rows b ≡ map placement_row (placements_of b)
  unfolding placement_rows
  placement-list = refl
