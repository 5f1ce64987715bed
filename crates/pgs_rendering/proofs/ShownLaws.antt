-- What the bitmaps in the scratch show is what the objects show. Assumes nothing.
use Rattle.std.specs.Prelude.{Some}
use mathlib.Core.Path.{◌≡◌, refl, sym, ap, ◌∙◌}
use mathlib.Core.Bool.{Bool, true, false}
use mathlib.Core.List.{List, [], ◌∷◌, ◌++◌, append_assoc}
use Prim.Native.Nat.{ℕ, ◌+◌, ◌*◌}
use lib.Dec.{eqb}
use lib.ListN.{length, take, drop}
use lib.Seq.{take_at, drop_at, drop-drop}
use Rattle.pgs_base.specs.Outcome.{accepted, pick}
use Rattle.pgs_base.proofs.Outcomes.{first-accepts, second_holds}
use Rattle.pgs_bitmap_check.specs.Bitmap.{reading_of, bitmap_of}
use Rattle.pgs_bitmap.proofs.BitmapArea.{bitmap-area}
use Rattle.pgs_plane.specs.Placing.{image_of}
use Rattle.pgs_reassembly.specs.Objects.{Chain, object_id, width_of, height_of, data_of}
use Rattle.pgs_reassembly.specs.Reassembly.{copied_data, object_records_from}
use Rattle.pgs_rendering.specs.Images.{image_in, look_in, bitmaps_of, bitmaps_verdict}
use Rattle.pgs_rendering.specs.Records.{bitmap_at, image_or, look_at}

-- where the bitmaps stand one after another from `at` on, looking one up by the records gives that of the object
pub look-same : (scratch rest : List ℕ) (at from : ℕ) (cs : List Chain) (id : ℕ) → bitmaps_verdict cs ≡ accepted → drop at scratch ≡ bitmaps_of cs ++ rest
    → look_at scratch at (object_records_from from cs) id ≡ look_in cs id
look-same scratch rest at from [] id ok e = refl
look-same scratch rest at from (c ∷ cs) id ok e =
    go (eqb (object_id c) id)
    (look-same scratch rest (at + width_of c * height_of c) (from + length (copied_data c)) cs id
    (second_holds (reading_of (data_of c) (width_of c) (height_of c)).verdict (bitmaps_verdict cs) ok) after)
  where
    area : length (bitmap_of (data_of c)) ≡ width_of c * height_of c
    area = bitmap-area (data_of c) (width_of c) (height_of c) (first-accepts (reading_of (data_of c) (width_of c) (height_of c)).verdict (bitmaps_verdict cs) ok)

    here : drop at scratch ≡ bitmap_of (data_of c) ++ (bitmaps_of cs ++ rest)
    here = e ∙ append_assoc (bitmap_of (data_of c)) (bitmaps_of cs) rest

    after : drop (at + width_of c * height_of c) scratch ≡ bitmaps_of cs ++ rest
    after =
        sym (drop-drop (width_of c * height_of c) at scratch)
        ∙ ap (drop (width_of c * height_of c)) here
        ∙ drop_at (bitmap_of (data_of c)) (bitmaps_of cs ++ rest) (width_of c * height_of c) area

    first : take (width_of c * height_of c) (drop at scratch) ≡ bitmap_of (data_of c)
    first = ap (take (width_of c * height_of c)) here ∙ take_at (bitmap_of (data_of c)) (bitmaps_of cs ++ rest) (width_of c * height_of c) area

    go : (b : Bool) → look_at scratch (at + width_of c * height_of c) (object_records_from (from + length (copied_data c)) cs) id ≡ look_in cs id
        → image_or
        (pick b (Some (image_of (width_of c) (height_of c) (take (width_of c * height_of c) (drop at scratch))))
        (bitmap_at scratch (at + width_of c * height_of c) (object_records_from (from + length (copied_data c)) cs) id))
        ≡ pick b (image_in c) (look_in cs id)
    go true ih = ap (image_of (width_of c) (height_of c)) first
    go false ih = ih
