-- The tests of the objects of a set, record by record, and what the records say of the objects. Assumes nothing.
use mathlib.Core.Path.{◌≡◌, refl, ap, ◌∙◌}
use mathlib.Core.Bool.{Bool, true, false, ◌||◌, ◌&&◌}
use mathlib.Core.List.{List, [], ◌∷◌, map}
use Prim.Native.Nat.{ℕ, ◌+◌, ◌≤◌}
use native.Mathlib.Omega.{arith}
use lib.Dec.{eqb}
use lib.ListN.{length, drop, length-append}
use Rattle.std.proofs.lemmas.List.Sums.{sum_by-cons}
use Rattle.pgs_base.specs.Outcome.{and_then, unless, pick}
use Rattle.pgs_bitmap_check.specs.Bitmap.{reading_of}
use Rattle.pgs_pcs.specs.declared.pcs.CompositionObject.{CompositionObject}
use Rattle.pgs_reassembly.specs.Objects.{Chain, object_id, width_of, height_of, data_of}
use Rattle.pgs_reassembly.specs.Reassembly.{copied, copied_data, joined_data, object_record, object_records_from, record_data, record_joined}
use Rattle.pgs_reassembly.specs.declared.ObjectRecord.{ObjectRecord}
use Rattle.pgs_rendering.specs.Images.{bitmaps_verdict, has_object, placements_verdict}
use Rattle.pgs_rendering.specs.Records.{records_joined, records_reading, has_record, all_present}

-- the record where a list has none
abbrev pub no_record : ObjectRecord
no_record = record { id = 0; version = 0; size = record { width = 0; height = 0 }; copied = false; place = 0; len = 0 }

-- i bitmaps are read, and are accepted
pub record Reading (s scratch : List ℕ) (rs : List ObjectRecord) (i : ℕ) : Type 0 where
  pub within : i ≤ length rs
  pub verdict : records_reading s scratch (drop i rs) ≡ records_reading s scratch rs

-- the joined bytes of an object's record are its copied data
record-copied : (at : ℕ) (c : Chain) → record_joined (object_record at c) ≡ length (copied_data c)
record-copied at c = go (copied c)
  where
    go : (b : Bool) → pick b (length (data_of c)) 0 ≡ length (pick b (data_of c) [])
    go true = refl
    go false = refl

-- what the records of objects say
pub total_of : (at : ℕ) (cs : List Chain) → records_joined (object_records_from at cs) ≡ length (joined_data cs)
total_of at [] = refl
total_of at (c ∷ cs) =
    let ih = total_of (at + length (copied_data c)) cs in
    omega (
      arith,
      ih,
      sum_by-cons record_joined (object_record at c) (object_records_from (at + length (copied_data c)) cs),
      record-copied at c,
      length-append (copied_data c) (joined_data cs),
    )

pub reading-of : (s scratch : List ℕ) (at : ℕ) (cs : List Chain) → map (record_data s scratch) (object_records_from at cs) ≡ map data_of cs
    → records_reading s scratch (object_records_from at cs) ≡ bitmaps_verdict cs
reading-of s scratch at [] e = refl
reading-of s scratch at (c ∷ cs) e =
    let here : record_data s scratch (object_record at c) ≡ data_of c = cc in
    let others : map (record_data s scratch) (object_records_from (at + length (copied_data c)) cs) ≡ map data_of cs = cc in
    λ j. and_then (reading_of (here j) (width_of c) (height_of c)).verdict (reading-of s scratch (at + length (copied_data c)) cs others j)

pub has_of : (at id : ℕ) (cs : List Chain) → has_record (object_records_from at cs) id ≡ has_object cs id
has_of at id [] = refl
has_of at id (c ∷ cs) = go (eqb (object_id c) id) (has_of (at + length (copied_data c)) id cs)
  where
    go : (b : Bool) → has_record (object_records_from (at + length (copied_data c)) cs) id ≡ has_object cs id
        → (b || has_record (object_records_from (at + length (copied_data c)) cs) id) ≡ pick b true (has_object cs id)
    go true ih = refl
    go false ih = ih

pub present-of : (at : ℕ) (cs : List Chain) (ps : List CompositionObject)
    → unless 33 (all_present (object_records_from at cs) ps) ≡ placements_verdict (has_object cs) ps
present-of at cs [] = refl
present-of at cs (p ∷ ps) = go (has_record (object_records_from at cs) p.object_id) (has_of at p.object_id cs) (present-of at cs ps)
  where
    go : (b : Bool) → b ≡ has_object cs p.object_id → unless 33 (all_present (object_records_from at cs) ps) ≡ placements_verdict (has_object cs) ps
        → unless 33 (b && all_present (object_records_from at cs) ps) ≡ and_then (unless 33 (has_object cs p.object_id)) (placements_verdict (has_object cs) ps)
    go true e ih = ih ∙ ap (λ (b : Bool). and_then (unless 33 b) (placements_verdict (has_object cs) ps)) e
    go false e ih = ap (λ (b : Bool). and_then (unless 33 b) (placements_verdict (has_object cs) ps)) e
