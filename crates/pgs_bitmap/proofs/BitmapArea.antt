-- An accepted bitmap has width times height pixels.
-- Assumes nothing.
use mathlib.Core.Path.{◌≡◌, refl, ◌∙◌, ap}
use mathlib.Core.Bool.{Bool, true, false, not, ◌&&◌}
use mathlib.Core.List.{List, [], ◌∷◌, ◌++◌}
use Prim.Native.Nat.{ℕ, ◌+◌, ◌*◌}
use native.Mathlib.Nat.{mul_comm, add-mul, one-mul}
use native.Mathlib.Omega.{arith}
use lib.Dec.{eqb, ltb, leb}
use lib.ListN.{length, replicate, length-append, length-replicate}
use borrow.Author.Tests.{eqb-true}
use Rattle.pgs_base.specs.Outcome.{Verdict, accepted, refused, and_then, unless, pick}
use Rattle.pgs_base.proofs.Outcomes.{first-accepts, second_holds, holds}
use Rattle.pgs_run_length.specs.RunLength.{Code, run, line_end, codes_of, pixels_of}
use Rattle.pgs_bitmap_check.specs.Bitmap.{counted, stopped, at_end, read_from, reading_of, bitmap_of}

-- a refusal is not accepted
never : {A : Type 0} {k : ℕ} → refused k ≡ accepted → A
never {A} {k} e = let z : ◌≡◌ {A = ℕ} 0 1 = cc in absurd (omega arith)

module _ (width height : ℕ) where
  one_line : (lines : ℕ) → (lines + 1) * width ≡ lines * width + width
  one_line lines = add-mul lines 1 width ∙ ap (λ (n : ℕ). lines * width + n) (one-mul width)

  -- the end, with no line more that counts
  ended-area : (lines column : ℕ) → and_then (unless 31 (eqb column 0)) (unless 32 (eqb lines height)) ≡ accepted
      → lines * width + column ≡ height * width
  ended-area lines column h =
      let none : column ≡ 0 = eqb-true column 0 (holds 31 (eqb column 0) (first-accepts _ (unless 32 (eqb lines height)) h)) in
      let all : lines ≡ height = eqb-true lines height (holds 32 (eqb lines height) (second_holds (unless 31 (eqb column 0)) _ h)) in
      rw (none, all) (omega arith)

  end-area : (lines column : ℕ) → at_end width height lines column ≡ accepted → lines * width + column ≡ height * width
  end-area lines column e = go (eqb column width) (not (eqb width 0)) refl e
    where
      go : (full wide : Bool) → eqb column width ≡ full
          → pick (full && wide) (unless 32 (eqb (lines + 1) height)) (and_then (unless 31 (eqb column 0)) (unless 32 (eqb lines height))) ≡ accepted
          → lines * width + column ≡ height * width
      go true true f h =
          let full : column ≡ width = eqb-true column width f in
          let all : lines + 1 ≡ height = eqb-true (lines + 1) height (holds 32 (eqb (lines + 1) height) h) in
          rw (full, ← all, one_line)
      go true false f h = ended-area lines column h
      go false wide f h = ended-area lines column h

  -- one run, and one line end, before codes that keep the area
  run-area : (lines column count color : ℕ) (codes : List Code) (ended : Verdict) (t : Bool)
      → ((read_from width height lines (column + count) codes ended).verdict ≡ accepted
      → lines * width + (column + count) + length (pixels_of codes) ≡ height * width)
      → (pick t (counted (read_from width height lines (column + count) codes ended)) (stopped (refused 24))).verdict ≡ accepted
      → lines * width + column + length (replicate count color ++ pixels_of codes) ≡ height * width
  run-area lines column count color codes ended true later e = rw (length-append, length-replicate) (omega (arith, later e))
  run-area lines column count color codes ended false later e = never e

  line-area : (lines column : ℕ) (codes : List Code) (ended : Verdict) (t u : Bool) → eqb column width ≡ t
      → ((read_from width height (lines + 1) 0 codes ended).verdict ≡ accepted
      → (lines + 1) * width + 0 + length (pixels_of codes) ≡ height * width)
      → (pick t (pick u (counted (read_from width height (lines + 1) 0 codes ended)) (stopped (refused 30))) (stopped (refused 29))).verdict ≡ accepted
      → lines * width + column + length (pixels_of codes) ≡ height * width
  line-area lines column codes ended true true full later e = omega (arith, later e, one_line lines, eqb-true column width full)
  line-area lines column codes ended true false full later e = never e
  line-area lines column codes ended false u full later e = never e

  area : (lines column : ℕ) (codes : List Code) (ended : Verdict) → (read_from width height lines column codes ended).verdict ≡ accepted
      → lines * width + column + length (pixels_of codes) ≡ height * width
  area lines column [] ended e = omega (arith, end-area lines column (second_holds ended (at_end width height lines column) e))
  area lines column (run count color ∷ codes) ended e =
      run-area lines column count color codes ended (leb (column + count) width) (area lines (column + count) codes ended) e
  area lines column (line_end ∷ codes) ended e =
      line-area lines column codes ended (eqb column width) (ltb lines height) refl (area (lines + 1) 0 codes ended) e

-- what `bitmap_of` says of an accepted bitmap
pub bitmap-area : (bytes : List ℕ) (width height : ℕ) → (reading_of bytes width height).verdict ≡ accepted
    → length (bitmap_of bytes) ≡ width * height
bitmap-area bytes width height e =
    omega (arith, area width height 0 0 (codes_of bytes).codes (codes_of bytes).ended e, mul_comm width height)
