-- The contracts of the calls where they are accepted. Assumes nothing.
use mathlib.Core.Path.{◌≡◌, sym, ap, ◌∙◌}
use mathlib.Core.Bool.{Bool, true}
use mathlib.Core.List.{List, ◌++◌}
use Prim.Native.Nat.{ℕ, ◌*◌, ◌≤◌}
use borrow.Author.Tests.{le-leb}
use lib.ListN.{length, take, drop, replicate}
use lib.Seq.{length-take-le}
use Rattle.pgs_base.specs.Outcome.{accepted}
use Rattle.pgs_plane.specs.Placing.{Image}
use Rattle.pgs_plane.specs.Pictures.{plane_of, transparent, cleared}
use Rattle.pgs_plane.specs.Strips.{strip}
use Rattle.pgs_plane.specs.Calls.{Changes, all_fit}
use Rattle.pgs_plane.proofs.StripLaws.{strip-same, strip-replicate}

module _ {met : Bool} {change : List ℕ → List ℕ} {before : List ℕ} where
  pub changes : {after : List ℕ} → met ≡ true → after ≡ change before → Changes met change before accepted after
  changes e q = record { answered = rw e; plane = rw e q }

-- the needs of painting
module _ (image : Image) (table : List ℕ) (w h : ℕ) (plane : List ℕ) where
  pub all-fit : 4 * w * h ≤ length plane → 1024 ≤ length table → image.image_width * image.image_height ≤ length image.indices
      → all_fit image table w h plane ≡ true
  all-fit p q r =
      rw (le-leb (4 * w * h) (length plane) p, le-leb 1024 (length table) q, le-leb (image.image_width * image.image_height) (length image.indices) r)

-- a cleared plane is zeros
zeros : (w h : ℕ) → plane_of (λ x y. transparent) w h ≡ replicate (4 * w * h) 0
unfolding plane_of
zeros w h =
    strip-same (λ y. strip (λ x. transparent) 0 w) (λ y. replicate (4 * w) 0) 0 0 h (λ k below. strip-replicate 4 0 w 0)
    ∙ strip-replicate (4 * w) 0 h 0

-- zeros are stored in its bytes
pub cleared-end : (w h n : ℕ) (plane : List ℕ) {front : List ℕ} → n ≡ 4 * w * h → n ≤ length plane → front ≡ replicate (length (take n plane)) 0
    → front ++ drop n plane ≡ cleared w h plane
cleared-end w h n plane is room e =
    ap (λ (l : List ℕ). l ++ drop n plane) (e ∙ ap (λ (k : ℕ). replicate k 0) (length-take-le n plane room))
    ∙ ap (λ (k : ℕ). replicate k 0 ++ drop k plane) is
    ∙ ap (λ (l : List ℕ). l ++ drop (4 * w * h) plane) (sym (zeros w h))
