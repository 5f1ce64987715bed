-- The pixels of a placement that are on the plane. Assumes nothing.
use mathlib.Core.Path.{◌≡◌, refl, sym, ap, ◌∙◌, subst}
use mathlib.Core.Bool.{Bool, true, false, ◌&&◌}
use mathlib.Core.Option.{Option, none, some}
use Prim.Native.Nat.{ℕ, ◌+◌, ◌-◌, ◌≤◌, ◌<◌}
use native.Mathlib.Nat.{add-sub_cancel_left}
use native.Mathlib.Omega.{arith}
use borrow.Author.Tests.{le-leb, lt-leb, lt-ltb, ltb-true}
use lib.Dec.{ltb}
use Rattle.std.proofs.Math.Bool.{and-false}
use Rattle.pgs_base.specs.Outcome.{pick}
use Rattle.pgs_pcs.specs.declared.pcs.CompositionObjectCrop.{CompositionObjectCrop}
use Rattle.pgs_pcs.specs.declared.pcs.CompositionObject.{CompositionObject}
use Rattle.pgs_plane.specs.Placing.{Image, index_at, part_of, covered, part_shown, index_shown}
use Rattle.pgs_paint.specs.Clipping.{Visible, Exactly}
use Rattle.pgs_paint.specs.declared.paint.VisiblePart.{VisiblePart}

-- ---- one axis

covered-before : (at from count size z : ℕ) → z < at → covered at from count size z ≡ false
covered-before at from count size z h = ap (λ (b : Bool). b && (ltb (z - at) count && ltb (from + (z - at)) size)) (lt-leb at z h)

-- the pixel n of the part
covered-at : (at from count size n : ℕ) → covered at from count size (at + n) ≡ (ltb n count && ltb (from + n) size)
covered-at at from count size n =
    ap (λ (b : Bool). b && (ltb (at + n - at) count && ltb (from + (at + n - at)) size)) (le-leb at (at + n) (omega arith))
    ∙ ap (λ (k : ℕ). ltb k count && ltb (from + k) size) (add-sub_cancel_left at n)

module _ {at from count size limit r : ℕ} (v : Visible at from count size limit r) where
  covered-inside : (n : ℕ) → n < r → covered at from count size (at + n) ≡ true
  covered-inside n h =
      covered-at at from count size n
      ∙ (λ i. lt-ltb n count (omega (arith, v.in_part)) i && lt-ltb (from + n) size (omega (arith, v.in_object (omega arith))) i)

  covered-past : (n : ℕ) → r ≤ n → at + n < limit → covered at from count size (at + n) ≡ false
  covered-past n h below = covered-at at from count size n ∙ go (ltb n count) (ltb (from + n) size) refl refl
    where
      go : (a b : Bool) → ltb n count ≡ a → ltb (from + n) size ≡ b → (a && b) ≡ false
      go true true p q = absurd (omega (arith, v.every n (ltb-true n count p) (ltb-true (from + n) size q) below))
      go true false p q = refl
      go false b p q = refl

  covered-beyond : (z : ℕ) → at + r ≤ z → z < limit → covered at from count size z ≡ false
  covered-beyond z h below =
      let n : at + (z - at) ≡ z = omega arith in
      ap (λ (k : ℕ). covered at from count size k) (sym n) ∙ covered-past (z - at) (omega arith) (omega arith)

-- ---- both axes

module _ (part : CompositionObjectCrop) (image : Image) (at_x at_y w h cols rows : ℕ)
    (across : Visible at_x part.horizontal_position part.width image.image_width w cols)
    (down : Visible at_y part.vertical_position part.height image.image_height h rows) where
  -- what is to be painted
  abbrev pub clipped : VisiblePart
  clipped =
      record {
        x = at_x;
        y = at_y;
        from_x = part.horizontal_position;
        from_y = part.vertical_position;
        columns = cols;
        rows = rows;
      }

  abbrev across_at : ℕ → Bool
  across_at x = covered at_x part.horizontal_position part.width image.image_width x

  abbrev down_at : ℕ → Bool
  down_at y = covered at_y part.vertical_position part.height image.image_height y

  abbrev seen : ℕ → ℕ → Option ℕ
  seen x y = some (index_at image (part.horizontal_position + (x - at_x)) (part.vertical_position + (y - at_y)))

  not-across : (x y : ℕ) → across_at x ≡ false → part_shown part image at_x at_y x y ≡ none
  not-across x y e = ap (λ (b : Bool). pick (b && down_at y) (seen x y) none) e

  not-down : (x y : ℕ) → down_at y ≡ false → part_shown part image at_x at_y x y ≡ none
  not-down x y e = ap (λ (b : Bool). pick b (seen x y) none) (ap (λ (b : Bool). across_at x && b) e ∙ and-false (across_at x))

  both : (i j : ℕ) → i < cols → j < rows
      → part_shown part image at_x at_y (at_x + i) (at_y + j) ≡ some (index_at image (part.horizontal_position + i) (part.vertical_position + j))
  both i j p q =
      (λ k. pick (covered-inside across i p k && covered-inside down j q k) (seen (at_x + i) (at_y + j)) none)
      ∙ (λ k. some (index_at image (part.horizontal_position + add-sub_cancel_left at_x i k) (part.vertical_position + add-sub_cancel_left at_y j k)))

  part-exactly : Exactly (part_shown part image at_x at_y) clipped image w h
  part-exactly =
      record {
        above = λ x y out. not-down x y (covered-before _ _ _ _ y out);
        below = λ x y out on. not-down x y (covered-beyond down y out on);
        left = λ x y out. not-across x y (covered-before _ _ _ _ x out);
        right = λ x y out on. not-across x y (covered-beyond across x out on);
        inside = both;
      }

-- of a placement whose part is this
pub clipped-exactly : (p : CompositionObject) (image : Image) (part : CompositionObjectCrop) (w h cols rows : ℕ)
    (across : Visible p.object_horizontal_position part.horizontal_position part.width image.image_width w cols)
    (down : Visible p.object_vertical_position part.vertical_position part.height image.image_height h rows)
    → part ≡ part_of p.cropping image.image_width image.image_height
    → Exactly (index_shown p image) (clipped part image p.object_horizontal_position p.object_vertical_position w h cols rows across down) image w h
clipped-exactly p image part w h cols rows across down e =
    subst
    (λ (q : CompositionObjectCrop). Exactly (part_shown q image p.object_horizontal_position p.object_vertical_position)
    (clipped part image p.object_horizontal_position p.object_vertical_position w h cols rows across down) image w h) e
    (part-exactly part image p.object_horizontal_position p.object_vertical_position w h cols rows across down)
