-- What one placement shows: 01, 'Plane'.
use Rattle.std.specs.Prelude.{Bool, ◌&&◌, List, [], ◌∷◌, ℕ, ◌+◌, ◌-◌, ◌*◌, leb, ltb, get_or, drop}
use Rattle.std.specs.Prelude as prelude
use Rattle.std.proofs.Math.Option.{Option, none, some}
use Rattle.pgs_base.specs.Outcome.{pick}
use Rattle.pgs_pcs.specs.declared.pcs.CompositionObjectCrop.{CompositionObjectCrop}
use Rattle.pgs_pcs.specs.declared.pcs.CompositionObject.{CompositionObject}

-- an object's bitmap: palette indices, row by row
pub record Image : Type 0 where
  pub image_width : ℕ
  pub image_height : ℕ
  pub indices : List ℕ

abbrev pub image_of : ℕ → ℕ → List ℕ → Image
image_of width height indices = record { image_width = width; image_height = height; indices = indices }

-- the index in column i of row j
abbrev pub index_at : Image → ℕ → ℕ → ℕ
index_at image i j = get_or (drop (image.image_width * j) image.indices) i 0

-- "Without a crop the whole object is used."
abbrev pub part_of : prelude.Option CompositionObjectCrop → ℕ → ℕ → CompositionObjectCrop
part_of prelude.None width height = record { horizontal_position = 0; vertical_position = 0; width = width; height = height }
part_of (prelude.Some crop) width height = crop

-- Whether the plane's column or row z is covered, on one axis. "The top left pixel of the crop, or of the object, belongs at the
-- placement's x and y": z shows the pixel `from + (z - at)`, where that is "inside both crop and object".
abbrev pub covered : (at from count size z : ℕ) → Bool
covered at from count size z = leb at z && (ltb (z - at) count && ltb (from + (z - at)) size)

-- the index that a placement of a part shows at x and y, or none: covered on both axes
abbrev pub part_shown : CompositionObjectCrop → Image → (at_x at_y x y : ℕ) → Option ℕ
part_shown part image at_x at_y x y =
    pick (covered at_x part.horizontal_position part.width image.image_width x
    && covered at_y part.vertical_position part.height image.image_height y)
    (some (index_at image (part.horizontal_position + (x - at_x)) (part.vertical_position + (y - at_y))))
    none

-- the index that a placement shows at x and y, or none: "Windows are not consulted."
abbrev pub index_shown : CompositionObject → Image → (x y : ℕ) → Option ℕ
index_shown p image x y =
    part_shown (part_of p.cropping image.image_width image.image_height) image p.object_horizontal_position p.object_vertical_position x y

-- the four bytes of an index in a palette table: "Pixels are R, G, B, alpha"
abbrev pub table_color : List ℕ → ℕ → List ℕ
table_color t i = get_or t (i * 4) 0 ∷ get_or t (i * 4 + 1) 0 ∷ get_or t (i * 4 + 2) 0 ∷ get_or t (i * 4 + 3) 0 ∷ []
