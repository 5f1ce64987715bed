-- The body of a PCS. 01, module 3: "PCS: width 2, height 2, frame rate 1, composition number 2, state 1 (00 normal, 40 acquisition
-- point, 80 epoch start, others kept), palette update flag 1 (80 means update), palette id 1, count 1, then placements: object id 2,
-- window id 1, crop flag 1, x 2, y 2; only if the flag is exactly 40, then crop x, y, width, height, 2 each."
-- From US 2009/0185789, whose text is not at hand: 01 gives what is needed of it.
use Rattle.pgs_pcs.specs.declared.pcs.CompositionObjectCrop.{CompositionObjectCrop}
use Rattle.std.specs.Prelude.{ℕ, Bool, List, [], ◌∷◌, map, length, drop, get_or, leb, eqb, Option, None, Some}
use Rattle.pgs_base.specs.Bytes.{num}
use Rattle.pgs_base.specs.Outcome.{Verdict, and_then, unless, pick}
use Rattle.pgs_records.specs.Records.{records, records_fit, records_size}
use Rattle.pgs_records.specs.declared.BodyList.{BodyList}
use Rattle.pgs_pcs.specs.declared.pcs.CompositionObject.{CompositionObject}
use Rattle.pgs_pcs.specs.declared.pcs.Pcs.{Pcs}

-- whether the placement at the front of l has a crop: its flag is exactly 40
abbrev pub cropped : List ℕ → Bool
cropped l = eqb (num 1 3 l) 0x40

abbrev pub placement_size : List ℕ → ℕ
placement_size l = pick (cropped l) 16 8

abbrev pub cropping_of : List ℕ → Option CompositionObjectCrop
cropping_of l =
    pick (cropped l)
    (Some
    (record { horizontal_position = num 2 8 l; vertical_position = num 2 10 l; width = num 2 12 l; height = num 2 14 l }))
    None

-- one placement, from the bytes at its start
abbrev pub placement_of : List ℕ → CompositionObject
placement_of l =
    record {
      object_id = num 2 0 l;
      window_id = num 1 2 l;
      object_cropped_flag = num 1 3 l;
      object_horizontal_position = num 2 4 l;
      object_vertical_position = num 2 6 l;
      cropping = cropping_of l;
    }

-- whether a crop is present, and its four numbers, 0 where it is absent
abbrev pub crop_cells : Option CompositionObjectCrop → List ℕ
crop_cells None = 0 ∷ 0 ∷ 0 ∷ 0 ∷ 0 ∷ []
crop_cells (Some c) = 1 ∷ c.horizontal_position ∷ c.vertical_position ∷ c.width ∷ c.height ∷ []

-- and back: the crop that a record of ten cells says; where the mark is 0 the other cells are ignored
abbrev pub crop_from : List ℕ → Option CompositionObjectCrop
crop_from r =
    pick (eqb (get_or r 5 0) 0) None
    (Some
    (record { horizontal_position = get_or r 6 0; vertical_position = get_or r 7 0; width = get_or r 8 0; height = get_or r 9 0 }))

-- a placement as a record of a caller's list
abbrev pub placement_row : CompositionObject → List ℕ
placement_row p =
    p.object_id
    ∷ p.window_id
    ∷ p.object_cropped_flag
    ∷ p.object_horizontal_position
    ∷ p.object_vertical_position
    ∷ crop_cells p.cropping

abbrev pub placement_count : List ℕ → ℕ
placement_count b = num 1 10 b

abbrev pub placements_of : List ℕ → List CompositionObject
placements_of b = records placement_of placement_size (placement_count b) (drop 11 b)

-- the placements as a caller's list holds them
unfoldable pub placement_rows : List ℕ → List (List ℕ)
placement_rows b = map placement_row (placements_of b)

abbrev pub pcs_of : List ℕ → Pcs
pcs_of b =
    record {
      width = num 2 0 b;
      height = num 2 2 b;
      frame_rate = num 1 4 b;
      composition_number = num 2 5 b;
      composition_state = num 1 7 b;
      palette_update_flag = num 1 8 b;
      palette_id = num 1 9 b;
    }

-- 4: "reader runs out"
abbrev pub pcs_verdict : List ℕ → Verdict
pcs_verdict b = and_then (unless 4 (leb 11 (length b))) (unless 4 (records_fit placement_size (placement_count b) (drop 11 b)))

-- n placements stand after the count
abbrev pub placements_at : ℕ → List ℕ → BodyList
placements_at n b = record { count = n; start = 11; len = records_size placement_size n (drop 11 b) }

abbrev pub pcs_list : List ℕ → BodyList
pcs_list b = placements_at (placement_count b) b
