-- Reading on where the width is not tested for each run: a run past it comes to 24, whatever follows.
-- Assumes nothing.
use mathlib.Core.Path.{◌≡◌, sym, ap, ◌∙◌, subst₂}
use mathlib.Core.List.{List, [], ◌∷◌}
use Prim.Native.Nat.{ℕ, ◌+◌, ◌%◌, ◌≤◌, ◌<◌}
use native.Mathlib.Decide.{dec_lt}
use native.Mathlib.Omega.{arith}
use lib.ListN.{length, get_or, drop}
use Rattle.pgs_base.specs.Outcome.{Verdict, refused}
use Rattle.pgs_run_length.specs.RunLength.{run, found, code_of, run_of}
use Rattle.pgs_bitmap_check.specs.Bitmap.{Reading}
use Rattle.pgs_bitmap_check.specs.Progress.{further, Reached, Untested, Onward}
use Rattle.pgs_base.specs.declared.dimensions.Dimensions.{Dimensions}
use Rattle.pgs_bitmap_check.specs.declared.bitmap.Place.{Place}
use Rattle.pgs_run_length.proofs.OneCode.{code-pixel, code-escape, escape-among, run-short-color}
use Rattle.pgs_bitmap_check.proofs.BitmapSteps.{taken_at, read-run, read-past-width}

module _ {l : List ℕ} {size : Dimensions} {place : Place} {v : Verdict} where
  pub untested-reached : Reached l size place v → Untested l size place v
  untested-reached r =
      record { within = r.inside.within; few = r.inside.few; same = λ h. r.same; past = λ h. absurd (omega (arith, h, r.inside.narrow)) }

  pub reached-tested : Untested l size place v → place.column ≤ size.width → Reached l size place v
  reached-tested u h = record { inside = record { within = u.within; few = u.few; narrow = h }; same = u.same h }

  pub untested-run : {count color n : ℕ} → Untested l size place v → code_of (drop place.at l) ≡ found (run count color) n
      → Untested l size (further place count n) v
  untested-run {count} u e =
      record {
        within = (taken_at l place.at u.within e).1;
        few = u.few;
        same = λ h. sym (ap (λ (x : Reading). x.verdict) (read-run size.width size.height place.lines place.column l place.at e h)) ∙ u.same (omega arith);
        past = λ h. beyond h (dec_lt size.width place.column);
      }
    where
      beyond : size.width < place.column + count → Dec (size.width < place.column) → refused 24 ≡ v
      beyond h (yes p) = u.past p
      beyond h (no p) =
          sym (ap (λ (x : Reading). x.verdict) (read-past-width size.width size.height place.lines place.column l place.at e h)) ∙ u.same (omega (arith, p))

-- the run of a code that begins with 00, where four bytes are there
pub run-here : (l : List ℕ) (at : ℕ) {count color n : ℕ} → at + 3 < length l → get_or l at 0 ≡ 0 → (get_or l (at + 1) 0 ≡ 0 → ⊥)
    → found (run count color) n ≡ run_of (get_or l (at + 1) 0) (get_or l (at + 2) 0 ∷ get_or l (at + 3) 0 ∷ []) → code_of (drop at l) ≡ found (run count color) n
run-here l at there escape nonzero is = code-escape l at (omega arith) escape ∙ sym (escape-among l at there nonzero is)

-- a short run of a color
pub short-color-here : (l : List ℕ) (at : ℕ) {low : ℕ} → at + 3 < length l → get_or l at 0 ≡ 0 → low ≡ get_or l (at + 1) 0 % 64
    → 0x80 ≤ get_or l (at + 1) 0 → get_or l (at + 1) 0 < 0xC0 → code_of (drop at l) ≡ found (run low (get_or l (at + 2) 0)) 3
short-color-here l at {low} there escape is-low more less =
    run-here l at there escape (λ e. omega (arith, e, more))
    (run-short-color (get_or l (at + 1) 0) low (get_or l (at + 2) 0 ∷ get_or l (at + 3) 0 ∷ []) is-low (omega (arith, more)) more less)

module _ {l : List ℕ} {place : Place} where
  pub onward-none : Onward l place place
  onward-none = record { order = omega arith; leads = λ size v u. u }

  -- a run, and then as another leads
  pub onward-run : {count color n : ℕ} {to : Place} → code_of (drop place.at l) ≡ found (run count color) n
      → Onward l (further place count n) to → Onward l place to
  onward-run e on = record { order = omega (arith, on.order); leads = λ size v u. on.leads size v (untested-run u e) }

  -- a pixel by itself, and then as another leads
  pub onward-pixel : {to : Place} → place.at < length l → (get_or l place.at 0 ≡ 0 → ⊥) → Onward l (further place 1 1) to → Onward l place to
  onward-pixel here nonzero on = onward-run (code-pixel l place.at here nonzero) on

-- a pixel by itself and a run, and then as another leads
pub onward-stroke : {l : List ℕ} {place to : Place} {count color n : ℕ} → place.at < length l → (get_or l place.at 0 ≡ 0 → ⊥)
    → code_of (drop (place.at + 1) l) ≡ found (run count color) n → Onward l (further place (1 + count) (1 + n)) to → Onward l place to
onward-stroke {l} {place} {to} {count} {n = n} here nonzero e on =
    onward-pixel here nonzero
    (onward-run e
    (subst₂ (λ (c a : ℕ). Onward l (record { lines = place.lines; column = c; at = a }) to) {x = place.column + (1 + count)}
    {y = place.column + 1 + count} {u = place.at + (1 + n)} {v = place.at + 1 + n} (omega arith) (omega arith) on))
