-- The bitmaps of a display set's objects, and what its placements show of them. 01, 'Plane': "Objects are those of the set itself."
use Rattle.std.specs.Prelude.{Bool, true, false, List, [], ◌∷◌, ◌++◌, ℕ, ◌+◌, ◌*◌, eqb}
use Rattle.pgs_base.specs.Outcome.{Verdict, accepted, and_then, unless, pick}
use Rattle.pgs_bitmap_check.specs.Bitmap.{reading_of, bitmap_of}
use Rattle.pgs_plane.specs.Placing.{Image, image_of}
use Rattle.pgs_pcs.specs.declared.pcs.CompositionObject.{CompositionObject}
use Rattle.pgs_reassembly.specs.Objects.{Chain, object_id, width_of, height_of, data_of}

-- the bitmap of an object
abbrev pub image_in : Chain → Image
image_in c = image_of (width_of c) (height_of c) (bitmap_of (data_of c))

-- the bitmap of an object id; where no object has it, one that covers nothing
abbrev pub look_in : List Chain → ℕ → Image
look_in [] id = image_of 0 0 []
look_in (c ∷ cs) id = pick (eqb (object_id c) id) (image_in c) (look_in cs id)

-- the bitmaps, one after another
abbrev pub bitmaps_of : List Chain → List ℕ
bitmaps_of [] = []
bitmaps_of (c ∷ cs) = bitmap_of (data_of c) ++ bitmaps_of cs

-- "every object's width times height"
abbrev pub area_of : List Chain → ℕ
area_of [] = 0
area_of (c ∷ cs) = width_of c * height_of c + area_of cs

-- "each object's 24 to 32 in first-seen order": also of those that no placement shows
abbrev pub bitmaps_verdict : List Chain → Verdict
bitmaps_verdict [] = accepted
bitmaps_verdict (c ∷ cs) = and_then (reading_of (data_of c) (width_of c) (height_of c)).verdict (bitmaps_verdict cs)

abbrev pub has_object : List Chain → ℕ → Bool
has_object [] id = false
has_object (c ∷ cs) id = pick (eqb (object_id c) id) true (has_object cs id)

-- 33: "a placement's id is not in the set", by which ids are known
abbrev pub placements_verdict : (ℕ → Bool) → List CompositionObject → Verdict
placements_verdict known [] = accepted
placements_verdict known (p ∷ ps) = and_then (unless 33 (known p.object_id)) (placements_verdict known ps)
