-- The records of objects that painting keeps, and where their bitmaps stand. Private contracts cite these; that of `render` cites
-- `Rendering`.
use Rattle.std.specs.Prelude.{Bool, true, ◌≡◌, List, [], ◌∷◌, ◌++◌, ℕ, ◌+◌, ◌*◌, ◌≤◌, eqb, length, take, drop, All, Option, None, Some}
use Rattle.std.specs.List.{sum_by, list_any, list_all}
use Rattle.pgs_base.specs.Outcome.{Verdict, accepted, and_then, pick}
use Rattle.pgs_bitmap_check.specs.Bitmap.{reading_of, bitmap_of}
use Rattle.pgs_plane.specs.Placing.{Image, image_of}
use Rattle.pgs_pcs.specs.declared.pcs.CompositionObject.{CompositionObject}
use Rattle.pgs_reassembly.specs.Reassembly.{record_data, record_joined}
use Rattle.pgs_reassembly.specs.declared.ObjectRecord.{ObjectRecord}

-- the pixels of an object
abbrev pub record_area : ObjectRecord → ℕ
record_area r = r.size.width * r.size.height

-- J: the bytes of the scratch that the joined data takes
abbrev pub records_joined : List ObjectRecord → ℕ
records_joined rs = sum_by record_joined rs

-- 24 to 32 of one object, whose data its record shows
abbrev pub record_reading : List ℕ → List ℕ → ObjectRecord → Verdict
record_reading s scratch r = (reading_of (record_data s scratch r) r.size.width r.size.height).verdict

-- and of each
abbrev pub records_reading : List ℕ → List ℕ → List ObjectRecord → Verdict
records_reading s scratch [] = accepted
records_reading s scratch (r ∷ rs) = and_then (record_reading s scratch r) (records_reading s scratch rs)

-- whether an object has this id
abbrev pub has_record : List ObjectRecord → ℕ → Bool
has_record rs id = list_any (λ r. eqb r.id id) rs

-- whether every placement's object is there
abbrev pub all_present : List ObjectRecord → List CompositionObject → Bool
all_present rs ps = list_all (λ p. has_record rs p.object_id) ps

-- the pixels of all objects
abbrev pub records_area : List ObjectRecord → ℕ
records_area [] = 0
records_area (r ∷ rs) = record_area r + records_area rs

-- the bitmap of an object id, if the bitmaps stand in a scratch one after another from a place on
abbrev pub bitmap_at : List ℕ → ℕ → List ObjectRecord → ℕ → Option Image
bitmap_at scratch at [] id = None
bitmap_at scratch at (r ∷ rs) id =
    pick (eqb r.id id) (Some (image_of r.size.width r.size.height (take (record_area r) (drop at scratch)))) (bitmap_at scratch (at + record_area r) rs id)

-- and where no object has the id, one that covers nothing
abbrev pub image_or : Option Image → Image
image_or None = image_of 0 0 []
image_or (Some i) = i

-- the look-up of an object id's image
abbrev pub look_at : List ℕ → ℕ → List ObjectRecord → ℕ → Image
look_at scratch at rs id = image_or (bitmap_at scratch at rs id)

-- data that is copied stands in the scratch before a place
abbrev pub Held : ℕ → ObjectRecord → Type 0
Held at r = r.copied ≡ true → r.place + r.len ≤ at

-- what storing an object's bitmap from `at` on needs
pub record Storable (s : List ℕ) (r : ObjectRecord) (at : ℕ) (scratch : List ℕ) : Type 0 where
  pub room : at + record_area r ≤ length scratch
  pub held : Held at r
  pub reads : record_reading s scratch r ≡ accepted

-- the bitmaps of objects, whose data their records show
abbrev pub records_bitmaps : List ℕ → List ℕ → List ObjectRecord → List ℕ
records_bitmaps s scratch [] = []
records_bitmaps s scratch (r ∷ rs) = bitmap_of (record_data s scratch r) ++ records_bitmaps s scratch rs

-- what storing the bitmaps from `at` on needs: their data is before it, and each was read through
pub record AllStorable (s : List ℕ) (rs : List ObjectRecord) (at : ℕ) (scratch : List ℕ) : Type 0 where
  pub room : at + records_area rs ≤ length scratch
  pub held : All (Held at) rs
  pub reads : records_reading s scratch rs ≡ accepted
