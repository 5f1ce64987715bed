-- Reading bytes in a row that are one pixel each.
-- Assumes nothing.
use mathlib.Core.Path.{subst₂}
use mathlib.Core.List.{List}
use Prim.Native.Nat.{ℕ, zero, suc, ◌+◌, ◌≤◌}
use native.Mathlib.Omega.{arith}
use lib.ListN.{length}
use Rattle.pgs_base.specs.Outcome.{Verdict}
use Rattle.pgs_run_length.specs.Literals.{Literals}
use Rattle.pgs_run_length.proofs.OneCode.{code-pixel}
use Rattle.pgs_bitmap_check.specs.Progress.{further, Untested, Onward}
use Rattle.pgs_base.specs.declared.dimensions.Dimensions.{Dimensions}
use Rattle.pgs_bitmap_check.specs.declared.bitmap.Place.{Place}
use Rattle.pgs_bitmap_check.proofs.UntestedWidth.{untested-run}

-- reading n bytes that are one pixel each
pub untested-literals : {l : List ℕ} {size : Dimensions} {place : Place} {v : Verdict} (n : ℕ) → Untested l size place v
    → Literals l place.at n → place.at + n ≤ length l → Untested l size (further place n n) v
untested-literals {l} {size} {place} {v} zero u literals there =
    subst₂ (λ (c a : ℕ). Untested l size (record { lines = place.lines; column = c; at = a }) v) {x = place.column} {y = place.column + 0} (omega arith) (omega arith) u
untested-literals {l} {size} {place} {v} (suc n) u literals there =
    subst₂ (λ (c a : ℕ). Untested l size (record { lines = place.lines; column = c; at = a }) v) {x = place.column + n + 1} {y = place.column + suc n} (omega arith) (omega arith)
    (untested-run (untested-literals n u (λ k h. literals k (omega arith)) (omega arith))
    (code-pixel l (place.at + n) (omega arith) (literals n (omega arith))))

pub onward-literals : {l : List ℕ} {place : Place} (n : ℕ) → Literals l place.at n → place.at + n ≤ length l → Onward l place (further place n n)
onward-literals n nonzero there = record { order = omega arith; leads = λ size v u. untested-literals n u nonzero there }
