-- Painting a display set. 01, module 10: "`DisplaySet::render`, by set number from 0", and 'Why a call is turned down': "Objects alone:
-- 1 to 15, 36, 16 to 23, 34. Painting: the same, then each object's 24 to 32 in first-seen order, 33." "Needs: .. for painting,
-- scratch J plus every object's width times height, plane four times its area."
use Rattle.std.specs.Prelude.{List, [], ◌++◌, ◌≡◌, ℕ, ◌+◌, ◌*◌, length}
use Rattle.pgs_base.specs.Outcome.{Verdict, Outcome, and_then, needing, is_accepted, laid, outcome_of, pick}
use Rattle.pgs_palette.specs.Palette.{Conversion}
use Rattle.pgs_plane.specs.Pictures.{plane_shown}
use Rattle.pgs_plane.specs.Placing.{Image}
use Rattle.pgs_segment.specs.Header.{pts_of}
use Rattle.pgs_segment.specs.OneSegment.{body_at}
use Rattle.pgs_pcs.specs.PcsBody.{pcs_of, placements_of}
use Rattle.pgs_pcs.specs.declared.pcs.CompositionObject.{CompositionObject}
use Rattle.pgs_pcs.specs.declared.pcs.Pcs.{Pcs}
use Rattle.pgs_reassembly.specs.Objects.{Chain}
use Rattle.pgs_reassembly.specs.Reassembly.{joined_data}
use Rattle.pgs_set.specs.Sets.{DisplaySet}
use Rattle.pgs_rendering.specs.Images.{look_in, bitmaps_of, area_of, bitmaps_verdict, has_object, placements_verdict}
use Rattle.pgs_rendering.specs.Palettes.{entries_among, color_shown}
use Rattle.pgs_rendering.specs.declared.Shown.{Shown}

-- the numbers of a set's PCS, and its placements
abbrev pub composition_of : DisplaySet → Pcs
composition_of d = pcs_of (body_at d.opening)

abbrev pub placements_in : DisplaySet → List CompositionObject
placements_in d = placements_of (body_at d.opening)

-- the colours of a set: of its own palettes, by a conversion
abbrev pub colors_in : Conversion → DisplaySet → ℕ → List ℕ
colors_in convert d = color_shown convert (entries_among (composition_of d).palette_id d.others)

-- the plane of a set, with a colour for each index and a bitmap for each object id
abbrev pub picture_of : (ℕ → List ℕ) → (ℕ → Image) → DisplaySet → List ℕ
picture_of color look d = plane_shown color look (placements_in d) (composition_of d).width (composition_of d).height

-- 34, by the lengths of the scratch and of the plane
abbrev pub room_verdict : DisplaySet → List Chain → (scratch plane : ℕ) → Verdict
room_verdict d cs scratch plane =
    and_then (needing (length (joined_data cs) + area_of cs) scratch) (needing (4 * (composition_of d).width * (composition_of d).height) plane)

-- the refusals before anything is written: those of the set's objects, then 34
abbrev pub early_verdict : Verdict → DisplaySet → List Chain → (scratch plane : ℕ) → Verdict
early_verdict verdict d cs scratch plane = and_then verdict (room_verdict d cs scratch plane)

-- those after the joined data is written
abbrev pub content_verdict : DisplaySet → List Chain → Verdict
content_verdict d cs = and_then (bitmaps_verdict cs) (placements_verdict (has_object cs) (placements_in d))

abbrev pub render_verdict : Verdict → DisplaySet → List Chain → (scratch plane : ℕ) → Verdict
render_verdict verdict d cs scratch plane = and_then (early_verdict verdict d cs scratch plane) (content_verdict d cs)

-- "painting leaves joined data, then the bitmaps in order, in the scratch"; refused by 24 to 33 it "has written the J joined bytes and
-- nothing else"
abbrev pub left_by : Verdict → List Chain → List ℕ
left_by content cs = joined_data cs ++ pick (is_accepted content) (bitmaps_of cs) []

-- width and height of the plane, and the PTS of the PCS: as the Rust's `RenderedDisplaySet`; 01 does not say
abbrev pub answer_of : DisplaySet → Shown
answer_of d = record { size = record { width = (composition_of d).width; height = (composition_of d).height }; pts = pts_of d.opening }

-- what painting a set promises, by a conversion of colours, where finding its objects has this verdict
pub record Rendered (convert : Conversion) (verdict : Verdict) (d : DisplaySet) (cs : List Chain) (scratch scratch' plane plane' : List ℕ)
    (answer : Outcome Shown) : Type 0 where
  pub answered : answer ≡ outcome_of (render_verdict verdict d cs (length scratch) (length plane)) (answer_of d)
  pub stored : scratch' ≡ laid (early_verdict verdict d cs (length scratch) (length plane)) (left_by (content_verdict d cs) cs) scratch
  pub shown : plane' ≡ laid (render_verdict verdict d cs (length scratch) (length plane)) (picture_of (colors_in convert d) (look_in cs) d) plane
