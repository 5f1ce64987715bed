-- How testing and reading a WDS body end, over its bytes. Assumes nothing.
use mathlib.Core.Path.{◌≡◌, refl, ap}
use mathlib.Core.Bool.{true}
use mathlib.Core.List.{List, map}
use Prim.Native.Nat.{ℕ, ◌≤◌}
use borrow.Author.Tests.{leb-true}
use lib.Dec.{leb}
use lib.ListN.{length, drop}
use Rattle.pgs_base.specs.Outcome.{accepted, outcome_of, unless}
use Rattle.pgs_base.proofs.Outcomes.{first_holds, second_holds, holds}
use Rattle.pgs_records.specs.Records.{records_fit, counted_list}
use Rattle.pgs_wds.specs.WdsBody.{window_row, window_rows, windows_of, window_size, window_count, wds_verdict, wds_list}
use Rattle.pgs_records.proofs.RecordLaws.{size-fixed}

module _ (b : List ℕ) where
  -- as every list behind its count
  pub windows-listed : outcome_of (wds_verdict b) (counted_list window_size 0 b) ≡ outcome_of (wds_verdict b) (wds_list b)
  windows-listed =
      ap (λ (n : ℕ). outcome_of (wds_verdict b) (record { count = window_count b; start = 1; len = n })) (size-fixed 9 (window_count b) (drop 1 b))

  pub window-list : window_rows b ≡ map window_row (windows_of b)
  unfolding window_rows
  window-list = refl

  -- an accepted body has its count and its windows
  pub has-count : wds_verdict b ≡ accepted → 1 ≤ length b
  has-count e = leb-true 1 (length b) (first_holds 4 (leb 1 (length b)) _ e)

  pub has-windows : wds_verdict b ≡ accepted → records_fit window_size (window_count b) (drop 1 b) ≡ true
  has-windows e = holds 4 _ (second_holds (unless 4 (leb 1 (length b))) _ e)
