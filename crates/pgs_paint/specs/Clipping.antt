-- The pixels of a placement that are on the plane, for the contracts of private functions.
use Rattle.std.specs.Prelude.{◌≡◌, List, ℕ, ◌+◌, ◌*◌, ◌≤◌, ◌<◌, length}
use Rattle.std.proofs.Math.Option.{none, some}
use Rattle.pgs_base.specs.declared.dimensions.Dimensions.{Dimensions}
use Rattle.pgs_pcs.specs.declared.pcs.CompositionObject.{CompositionObject}
use Rattle.pgs_plane.specs.Placing.{Image, image_of, index_at, index_shown, table_color}
use Rattle.pgs_plane.specs.Pictures.{Layer, painted}
use Rattle.pgs_paint.specs.declared.paint.VisiblePart.{VisiblePart}

-- on one axis, the r pixels from the part's first on are those inside the part, the object and the plane
pub record Visible (at from count size limit r : ℕ) : Type 0 where
  pub in_part : r ≤ count
  pub in_object : 0 < r → from + r ≤ size
  pub in_plane : 0 < r → at + r ≤ limit
  pub every : (n : ℕ) → n < count → from + n < size → at + n < limit → n < r

-- they are within the object and the plane
pub record Bounds (s : VisiblePart) (image_width image_height width height : ℕ) : Type 0 where
  pub columns_inside : 0 < s.columns → (s.from_x + s.columns ≤ image_width) × (s.x + s.columns ≤ width)
  pub rows_inside : 0 < s.rows → (s.from_y + s.rows ≤ image_height) × (s.y + s.rows ≤ height)

-- what painting them needs
pub record Paintable (s : VisiblePart) (object : Dimensions) (indices : List ℕ) (size : Dimensions) (plane : List ℕ) : Type 0 where
  pub some_columns : 0 < s.columns
  pub some_rows : 0 < s.rows
  pub bounds : Bounds s object.width object.height size.width size.height
  pub plane_room : 4 * size.width * size.height ≤ length plane
  pub image_room : object.width * object.height ≤ length indices

-- on the plane the layer has these pixels and no other
pub record Exactly (layer : Layer) (s : VisiblePart) (image : Image) (width height : ℕ) : Type 0 where
  pub above : (x y : ℕ) → y < s.y → layer x y ≡ none
  pub below : (x y : ℕ) → s.y + s.rows ≤ y → y < height → layer x y ≡ none
  pub left : (x y : ℕ) → x < s.x → layer x y ≡ none
  pub right : (x y : ℕ) → s.x + s.columns ≤ x → x < width → layer x y ≡ none
  pub inside : (i j : ℕ) → i < s.columns → j < s.rows → layer (s.x + i) (s.y + j) ≡ some (index_at image (s.from_x + i) (s.from_y + j))

-- of a placement's object the plane has these pixels, whatever their indices are
abbrev pub Clipped : CompositionObject → (object plane : Dimensions) → VisiblePart → Type 0
Clipped p object plane s =
    (indices : List ℕ)
    → Exactly (index_shown p (image_of object.width object.height indices)) s (image_of object.width object.height indices) plane.width plane.height

-- the layer of which the plane has these pixels is painted over it
abbrev pub RowsPainted : VisiblePart → (object : Dimensions) → (indices table : List ℕ) → (size : Dimensions) → (before after : List ℕ) → Type 0
RowsPainted s object indices table size before after =
    (layer : Layer) → Exactly layer s (image_of object.width object.height indices) size.width size.height
    → after ≡ painted (table_color table) layer size.width size.height before
