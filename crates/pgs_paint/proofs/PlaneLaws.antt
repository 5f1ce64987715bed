-- A layer painted row by row: what a row and what a plane then hold. Assumes nothing.
use mathlib.Core.Path.{◌≡◌, refl, sym, ap, ◌∙◌}
use mathlib.Core.List.{List, ◌++◌, append_assoc, append-nil}
use mathlib.Core.Bool.{Bool, true, false}
use mathlib.Core.Option.{none}
use Prim.Native.Nat.{ℕ, suc, ◌+◌, ◌*◌, ◌-◌, ◌≤◌, ◌<◌}
use native.Mathlib.Nat.{mul-suc, mul-add, mul-zero, mul-le-mul_left, add_assoc, add-sub_cancel_left}
use native.Mathlib.Omega.{arith}
use lib.ListN.{length, take, drop, get_or, length-append, length-drop, take-append-drop}
use lib.Seq.{drop-drop, take-take, take_all, take-append-le, drop-append-le, take-append-add, drop-append-add, length-take-le, get_or-take, get_or-drop}
use lib.Dec.{ltb}
use borrow.Author.Tests.{ltb-true, ltb-false}
use borrow.Rule.Slice.PartMut.{mid_of, put_mid}
use Rattle.pgs_plane.specs.Strips.{strip, pieces}
use Rattle.pgs_plane.specs.Placing.{Image, image_of, index_at, table_color}
use Rattle.pgs_plane.specs.Pictures.{Layer, color_over, row_painted, painted}
use Rattle.pgs_paint.specs.Clipping.{Exactly, Bounds}
use Rattle.pgs_paint.specs.declared.paint.VisiblePart.{VisiblePart}
use Rattle.pgs_paint.proofs.RowLaws.{colors}
use Rattle.pgs_plane.proofs.StripLaws.{pieces-add, pieces_kept, pieces-new}

-- ---- numbers

-- a place in row n is within the rows
pub row_inside : (size count n x : ℕ) → n < count → x ≤ size → size * n + x ≤ size * count
row_inside size count n x below h =
    let more : size * suc n ≤ size * count = mul-le-mul_left size below in
    omega (arith, mul-suc size n)

-- one row more
more : (s n : ℕ) → s * (n + 1) ≡ s * n + s
more s n = mul-add s n 1 ∙ ap (λ (k : ℕ). s * n + k) {x = s * 1} {y = s} (omega arith)

-- ---- a part put into the middle of a list

put-behind : (p r ys : List ℕ) (n a k : ℕ) → length p ≡ n → put_mid (n + a) k (p ++ r) ys ≡ p ++ put_mid a k r ys
put-behind p r ys n a k e =
    ap (λ (m : ℕ). put_mid (m + a) k (p ++ r) ys) (sym e)
    ∙ (λ i. take-append-add p r a i ++ (ys ++ drop k (drop-append-add p r a i)))
    ∙ append_assoc p (take a r) (ys ++ drop k (drop a r))

put-in-front : (p r ys : List ℕ) (a k : ℕ) → a + k ≤ length p → put_mid a k (p ++ r) ys ≡ put_mid a k p ys ++ r
put-in-front p r ys a k h =
    (λ i. take-append-le a p r (omega arith) i ++ (ys ++ drop k (drop-append-le a p r (omega arith) i)))
    ∙ ap (λ (l : List ℕ). take a p ++ (ys ++ l)) (drop-append-le k (drop a p) r (rw length-drop (omega arith)))
    ∙ ap (λ (l : List ℕ). take a p ++ l) (sym (append_assoc ys (drop k (drop a p)) r))
    ∙ sym (append_assoc (take a p) (ys ++ drop k (drop a p)) r)

-- ---- a row

module _ (color : ℕ → List ℕ) (layer : Layer) (w : ℕ) where
  -- nothing in it is covered
  row_kept : (y : ℕ) (r : List ℕ) → ((x : ℕ) → x < w → layer x y ≡ none) → row_painted color layer w y (take (4 * w) r) ≡ take (4 * w) r
  unfolding row_painted
  row_kept y r h =
      pieces_kept (λ x below. color_over color below (layer x y)) 4 0 w (take (4 * w) r) (λ k low high l. ap (color_over color (take 4 l)) (h k (omega arith)))
      ∙ take-take (4 * w) (4 * w) r (omega arith)

  -- a stretch of it is covered
  pub row-covered : (y x c : ℕ) (f : ℕ → List ℕ) (row : List ℕ) → x + c ≤ w → length row ≡ 4 * w
      → ((k : ℕ) → k < x → layer k y ≡ none) → ((k : ℕ) → x + c ≤ k → k < w → layer k y ≡ none)
      → ((k : ℕ) → k < c → (old : List ℕ) → color_over color old (layer (x + k) y) ≡ f k)
      → row_painted color layer w y row ≡ put_mid (4 * x) (4 * c) row (strip f 0 c)
  unfolding row_painted
  row-covered y x c f row room size left right inside =
      let g : ℕ → List ℕ → List ℕ = λ k old. color_over color old (layer k y) in
      let e = w - (x + c) in
      ap (λ (n : ℕ). pieces g 4 0 n row) {x = w} {y = x + (c + e)} (omega arith)
      ∙ pieces-add g 4 0 x (c + e) row
      ∙ (λ i.
      pieces_kept g 4 0 x row (λ k low high l. ap (color_over color (take 4 l)) (left k (omega arith))) i
      ++ (ap (λ (a : ℕ). pieces g 4 a (c + e) (drop (4 * x) row)) {x = 0 + x} {y = x} (omega arith) ∙ pieces-add g 4 x c e (drop (4 * x) row)) i)
      ∙ (λ i.
      take (4 * x) row
      ++ (pieces-new g 4 f x 0 c (drop (4 * x) row) (λ k below old. inside k below old ∙ ap f {x = k} {y = 0 + k} (omega arith)) i
      ++ (pieces_kept g 4 (x + c) e (drop (4 * c) (drop (4 * x) row)) (λ k low high l. ap (color_over color (take 4 l)) (right k low (omega arith)))
      ∙ take_all (4 * e) (drop (4 * c) (drop (4 * x) row)) (simp length-drop (omega arith))) i))

-- ---- the rows of a plane

module _ (color : ℕ → List ℕ) (layer : Layer) (w : ℕ) where
  -- a layer over the first n rows
  abbrev pub first_rows : ℕ → List ℕ → List ℕ
  first_rows n plane = pieces (row_painted color layer w) (4 * w) 0 n plane ++ drop (4 * w * n) plane

  -- further rows in which nothing is covered
  pub rows-kept : (m e : ℕ) (l : List ℕ) → ((x y : ℕ) → m ≤ y → y < m + e → x < w → layer x y ≡ none) → first_rows (m + e) l ≡ first_rows m l
  rows-kept m e l h =
      let s = 4 * w in
      let g = row_painted color layer w in
      (λ i.
      (pieces-add g s 0 m e l
      ∙ ap (λ (r : List ℕ). pieces g s 0 m l ++ r)
      (pieces_kept g s (0 + m) e (drop (s * m) l) (λ k low high r. row_kept color layer w k r (λ x below. h x k (omega arith) (omega arith) below))))
      i
      ++ (ap (λ (k : ℕ). drop k l) (mul-add s m e) ∙ sym (drop-drop (s * e) (s * m) l)) i)
      ∙ append_assoc (pieces g s 0 m l) (take (s * e) (drop (s * m) l)) (drop (s * e) (drop (s * m) l))
      ∙ ap (λ (r : List ℕ). pieces g s 0 m l ++ r) (take-append-drop (s * e) (drop (s * m) l))

  no_rows : (l : List ℕ) → first_rows 0 l ≡ l
  unfolding pieces
  no_rows l = ap (λ (k : ℕ). drop k l) (mul-zero (4 * w))

  -- nothing on the plane is covered
  pub nothing-covered : (h : ℕ) (l : List ℕ) → ((x y : ℕ) → y < h → x < w → layer x y ≡ none) → first_rows h l ≡ l
  nothing-covered h l empty =
      ap (λ (n : ℕ). first_rows n l) {x = h} {y = 0 + h} (omega arith)
      ∙ rows-kept 0 h l (λ x y low high. empty x y (omega arith))
      ∙ no_rows l

  pieces_more : (n : ℕ) (l : List ℕ) → pieces (row_painted color layer w) (4 * w) 0 (n + 1) l
      ≡ pieces (row_painted color layer w) (4 * w) 0 n l ++ row_painted color layer w n (take (4 * w) (drop (4 * w * n) l))
  unfolding pieces
  pieces_more n l =
      let g = row_painted color layer w in
      pieces-add g (4 * w) 0 n 1 l
      ∙ ap (λ (t : List ℕ). pieces g (4 * w) 0 n l ++ t)
      (append-nil (g (0 + n) (take (4 * w) (drop (4 * w * n) l))) ∙ ap (λ (k : ℕ). g k (take (4 * w) (drop (4 * w * n) l))) {x = 0 + n} {y = n} (omega arith))

  -- one row more, in which a stretch is covered
  pub rows_more : (n x c : ℕ) (f : ℕ → List ℕ) (l now : List ℕ) → x + c ≤ w → 4 * w * n + 4 * w ≤ length l → length now ≡ length l
      → ((k : ℕ) → k < x → layer k n ≡ none) → ((k : ℕ) → x + c ≤ k → k < w → layer k n ≡ none)
      → ((k : ℕ) → k < c → (old : List ℕ) → color_over color old (layer (x + k) n) ≡ f k)
      → now ≡ first_rows n l → put_mid (4 * w * n + 4 * x) (4 * c) now (strip f 0 c) ≡ first_rows (n + 1) l
  rows_more n x c f l now room fits same left right inside is =
      let s = 4 * w in
      let g = row_painted color layer w in
      let p = pieces g s 0 n l in
      let r = drop (s * n) l in
      let behind : length r ≡ length l - s * n = length-drop (s * n) l in
      let front : length p ≡ s * n = omega (arith, length-append p r, ap length is) in
      let one : length (take s r) ≡ s = length-take-le s r (omega arith) in
      ap (λ (t : List ℕ). put_mid (s * n + 4 * x) (4 * c) t (strip f 0 c)) is
      ∙ put-behind p r (strip f 0 c) (s * n) (4 * x) (4 * c) front
      ∙ ap (λ (t : List ℕ). p ++ t)
      (ap (λ (t : List ℕ). put_mid (4 * x) (4 * c) t (strip f 0 c)) (sym (take-append-drop s r))
      ∙ put-in-front (take s r) (drop s r) (strip f 0 c) (4 * x) (4 * c) (omega arith)
      ∙ ap (λ (t : List ℕ). t ++ drop s r) (sym (row-covered color layer w n x c f (take s r) room one left right inside)))
      ∙ sym (append_assoc p (g n (take s r)) (drop s r))
      ∙ (λ i. sym (pieces_more n l) i ++ (drop-drop s (s * n) l ∙ ap (λ (k : ℕ). drop k l) (sym (more s n))) i)

-- ---- the pixels of a placement

-- a row of the bitmap's indices
pub index-lent : (iw ih : ℕ) (bitmap : List ℕ) (j x c k : ℕ) → k < c → get_or (take c (drop (iw * j + x) bitmap)) k 0 ≡ index_at (image_of iw ih bitmap) (x + k) j
index-lent iw ih bitmap j x c k h =
    get_or-take c (drop (iw * j + x) bitmap) k 0 h
    ∙ get_or-drop (iw * j + x) bitmap k 0
    ∙ ap (λ (n : ℕ). get_or bitmap n 0) (add_assoc (iw * j) x k)
    ∙ sym (get_or-drop (iw * j) bitmap (x + k) 0)

-- the places of the row j of what is shown
pub record Room (s : VisiblePart) (iw ih w h j : ℕ) : Type 0 where
  pub across : s.x + s.columns ≤ w
  pub down : s.y + j < h
  pub source : iw * (s.from_y + j) + s.from_x + s.columns ≤ iw * ih
  pub target : 4 * w * (s.y + j) + 4 * s.x + 4 * s.columns ≤ 4 * w * h

pub room : {s : VisiblePart} {iw ih w h j : ℕ} → Bounds s iw ih w h → 0 < s.columns → j < s.rows → Room s iw ih w h j
room {s} {iw} {ih} {w} {h} {j} b some more =
    let c = b.columns_inside some in
    let r = b.rows_inside (omega arith) in
    record {
      across = c.1;
      down = omega (arith, r.1);
      source = omega (arith, row_inside iw ih (s.from_y + j) (s.from_x + s.columns) (omega (arith, r.0)) c.0);
      target = omega (arith, row_inside (4 * w) h (s.y + j) (4 * s.x + 4 * s.columns) (omega (arith, r.1)) (omega (arith, c.1)));
    }

module _ (t bitmap l now new : List ℕ) (s : VisiblePart) (iw ih w h j : ℕ) (r : Room s iw ih w h j) where
  abbrev from : ℕ
  from = iw * (s.from_y + j) + s.from_x

  abbrev to : ℕ
  to = 4 * w * (s.y + j) + 4 * s.x

  abbrev lent : ℕ → List ℕ
  lent m = mid_of from m bitmap

  -- the row j is stored
  pub row_laid : j < s.rows → iw * ih ≤ length bitmap → 4 * w * h ≤ length l → length now ≡ length l
      → new ≡ strip (colors t (lent (from + s.columns - from))) 0 (length (lent (from + s.columns - from)))
      → (layer : Layer) → Exactly layer s (image_of iw ih bitmap) w h → now ≡ first_rows (table_color t) layer w (s.y + j) l
      → put_mid to (to + 4 * s.columns - to) now new ≡ first_rows (table_color t) layer w (s.y + (j + 1)) l
  row_laid more here there same is layer ex so =
      let size : length (lent s.columns) ≡ s.columns = length-take-le s.columns (drop from bitmap) (rw length-drop (omega (arith, r.source))) in
      let colored : new ≡ strip (colors t (lent s.columns)) 0 s.columns =
      is ∙ ap (λ (n : ℕ). strip (colors t (lent n)) 0 (length (lent n))) (add-sub_cancel_left from s.columns) ∙ ap (λ (n : ℕ). strip (colors t (lent s.columns)) 0 n) size in
      (λ i. put_mid to (add-sub_cancel_left to (4 * s.columns) i) now (colored i))
      ∙ rows_more (table_color t) layer w (s.y + j) s.x s.columns (colors t (lent s.columns)) l now r.across
      (omega (arith, row_inside (4 * w) h (s.y + j) (4 * w) r.down (omega arith))) same
      (λ n out. ex.left n (s.y + j) out)
      (λ n out on. ex.right n (s.y + j) out on)
      (λ n below old.
      ap (color_over (table_color t) old) (ex.inside n j below more)
      ∙ ap (table_color t) (sym (index-lent iw ih bitmap (s.from_y + j) s.from_x s.columns n below)))
      so
      ∙ ap (λ (n : ℕ). first_rows (table_color t) layer w n l) {x = s.y + j + 1} {y = s.y + (j + 1)} (omega arith)

module _ (color : ℕ → List ℕ) (layer : Layer) (s : VisiblePart) (image : Image) (w h : ℕ) (ex : Exactly layer s image w h) (l : List ℕ) where
  -- above the first row nothing is covered
  pub rows-begin : l ≡ first_rows color layer w (s.y + 0) l
  rows-begin = sym (nothing-covered color layer w (s.y + 0) l (λ x y high below. ex.above x y (omega arith)))

  -- below the last row nothing is covered
  pub rows_end : (j : ℕ) → s.y + s.rows ≤ h → j ≤ s.rows → s.rows ≤ j → first_rows color layer w (s.y + j) l ≡ painted color layer w h l
  unfolding painted
  rows_end j inside low high =
      sym (ap (λ (n : ℕ). first_rows color layer w n l) {x = h} {y = s.y + j + (h - (s.y + j))} (omega arith)
      ∙ rows-kept color layer w (s.y + j) (h - (s.y + j)) l (λ x y past on below. ex.below x y (omega arith) (omega arith)))

  -- no column or no row is on the plane
  pub no-columns : s.columns ≡ 0 → l ≡ painted color layer w h l
  unfolding painted
  no-columns e = sym (nothing-covered color layer w h l (λ x y on below. go x y below (ltb x s.x) refl))
    where
      go : (x y : ℕ) → x < w → (b : Bool) → ltb x s.x ≡ b → layer x y ≡ none
      go x y below true p = ex.left x y (ltb-true x s.x p)
      go x y below false p = ex.right x y (omega (arith, ltb-false x s.x p)) below

  pub no-rows-shown : s.rows ≡ 0 → l ≡ painted color layer w h l
  unfolding painted
  no-rows-shown e = sym (nothing-covered color layer w h l (λ x y on below. go x y on (ltb y s.y) refl))
    where
      go : (x y : ℕ) → y < h → (b : Bool) → ltb y s.y ≡ b → layer x y ≡ none
      go x y on true p = ex.above x y (ltb-true y s.y p)
      go x y on false p = ex.below x y (omega (arith, ltb-false y s.y p)) on
