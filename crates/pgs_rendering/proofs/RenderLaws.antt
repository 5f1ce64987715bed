-- Painting a display set, step by step. Assumes nothing.
use mathlib.Core.Path.{◌≡◌, refl, sym, ap, ◌∙◌}
use mathlib.Core.Bool.{Bool, true}
use mathlib.Core.List.{List, [], ◌∷◌, ◌++◌, map, append-nil, append_assoc}
use mathlib.Core.Option.{Option, none, some}
use Prim.Native.Nat.{ℕ, ◌+◌, ◌*◌, ◌≤◌, ◌<◌}
use native.Mathlib.Omega.{arith}
use borrow.Author.Tests.{le-leb, lt-leb}
use lib.Dec.{leb}
use lib.ListN.{length, take, drop, length-append}
use lib.Seq.{take_at, drop_at, drop-drop}
use Rattle.std.proofs.lemmas.List.Recursion.{is_sum_by}
use Rattle.std.specs.List.{sum_by}
use Rattle.pgs_base.specs.Bytes.{Bytes}
use Rattle.pgs_base.specs.declared.dimensions.Dimensions.{Dimensions}
use Rattle.pgs_base.specs.Outcome.{Verdict, accepted, refused, outcome_of, and_then, unless, needing, laid, pick}
use Rattle.pgs_base.proofs.Outcomes.{first-accepts, second_holds, holds}
use Rattle.pgs_bitmap_check.specs.Bitmap.{reading_of, bitmap_of}
use Rattle.pgs_bitmap.proofs.BitmapArea.{bitmap-area}
use Rattle.pgs_color.specs.Bytes.{rgb_of}
use Rattle.pgs_palette.specs.Table as table
use Rattle.pgs_palette.specs.Palette.{Conversion}
use Rattle.pgs_plane.specs.Calls.{Clears}
use Rattle.pgs_plane.specs.Pictures.{Picture, plane_of, color_over, transparent, index_of, covering_at, plane_shown, cleared, painted_all}
use Rattle.pgs_plane.specs.Placing.{Image, table_color}
use Rattle.pgs_plane.specs.Strips.{strip}
use Rattle.pgs_plane.proofs.LastWins.{last-wins}
use Rattle.pgs_plane.proofs.StripLaws.{strip-length}
use Rattle.pgs_pcs.specs.declared.pcs.CompositionObject.{CompositionObject}
use Rattle.pgs_pcs.specs.declared.pcs.Pcs.{Pcs}
use Rattle.pgs_reassembly.specs.Objects.{Chain, data_of, width_of, height_of, chains_of, fragments_verdict, object_limit}
use Rattle.pgs_reassembly.specs.Tables.{fragments_left}
use Rattle.pgs_segment.specs.OneSegment.{used_by}
use Rattle.pgs_set.specs.Sets.{DisplaySet, through_end}
use Rattle.pgs_reassembly.specs.Reassembly.{joined_data, object_records, Joined, record_data}
use Rattle.pgs_reassembly.specs.declared.ObjectRecord.{ObjectRecord}
use Rattle.pgs_set.specs.Walks.{pieces_at, SetBegins, set_at}
use Rattle.pgs_set.proofs.SetLaws.{set_here}
use Rattle.pgs_reassembly.proofs.ObjectLaws.{begin-fragments, joined-within}
use Rattle.pgs_reassembly.proofs.ViewLaws.{placed-data}
use Rattle.pgs_rendering.specs.Images.{look_in, bitmaps_of, area_of, bitmaps_verdict}
use Rattle.pgs_rendering.specs.Palettes.{entries_among, color_shown, empty_table}
use Rattle.pgs_rendering.specs.Rendering.{composition_of, placements_in, colors_in, picture_of, early_verdict, content_verdict, left_by, answer_of, Rendered}
use Rattle.pgs_rendering.specs.Records.{record_area, records_joined, records_area, records_reading, records_bitmaps, all_present, look_at, AllStorable}
use Rattle.pgs_rendering.specs.Steps.{objects_in, Listed, JoinedAndRead, Ready, Showing}
use Rattle.pgs_rendering.proofs.AreaLaws.{area-within}
use Rattle.pgs_rendering.proofs.ColorLaws.{empty-shown}
use Rattle.pgs_rendering.proofs.EntryLaws.{few-ids}
use Rattle.pgs_rendering.proofs.ObjectLaws.{area_of_lem, bitmaps-of, records-held}
use Rattle.pgs_rendering.proofs.RecordLaws.{total_of, reading-of, present-of}
use Rattle.pgs_rendering.proofs.ShownLaws.{look-same}

-- bitmaps that are accepted take their area
bitmaps-area : (cs : List Chain) → bitmaps_verdict cs ≡ accepted → length (bitmaps_of cs) ≡ area_of cs
bitmaps-area [] e = refl
bitmaps-area (c ∷ cs) e =
    length-append (bitmap_of (data_of c)) (bitmaps_of cs)
    ∙ (λ j.
    bitmap-area (data_of c) (width_of c) (height_of c) (first-accepts (reading_of (data_of c) (width_of c) (height_of c)).verdict (bitmaps_verdict cs) e) j
    + bitmaps-area cs (second_holds (reading_of (data_of c) (width_of c) (height_of c)).verdict (bitmaps_verdict cs) e) j)

-- a plane takes four bytes a pixel
plane-length : (f : Picture) (w h : ℕ) → ((x y : ℕ) → length (f x y) ≡ 4) → length (plane_of f w h) ≡ 4 * w * h
unfolding plane_of
plane-length f w h size = strip-length (λ y. strip (λ x. f x y) 0 w) (4 * w) 0 h (λ y. strip-length (λ x. f x y) 4 0 w (λ x. size x y))

shown-length : (color : ℕ → List ℕ) (look : ℕ → Image) (ps : List CompositionObject) (w h : ℕ) → ((i : ℕ) → length (color i) ≡ 4)
    → length (plane_shown color look ps w h) ≡ 4 * w * h
shown-length color look ps w h four =
    plane-length (λ x y. color_over color transparent (index_of (covering_at look ps x y))) w h (λ x y. go (index_of (covering_at look ps x y)))
  where
    go : (o : Option ℕ) → length (color_over color transparent o) ≡ 4
    go none = refl
    go (some i) = four i

-- "plane four times its area": what an accepted call writes to the plane
pub picture-length : (convert : Conversion) (d : DisplaySet) (cs : List Chain)
    → length (picture_of (colors_in convert d) (look_in cs) d) ≡ 4 * (composition_of d).width * (composition_of d).height
picture-length convert d cs =
    shown-length (colors_in convert d) (look_in cs) (placements_in d) (composition_of d).width (composition_of d).height (λ i. refl)

-- "scratch J plus every object's width times height": what it writes to the scratch
pub left-length : (cs : List Chain) → bitmaps_verdict cs ≡ accepted → length (left_by accepted cs) ≡ length (joined_data cs) + area_of cs
left-length cs e = length-append (joined_data cs) (bitmaps_of cs) ∙ ap (λ (n : ℕ). length (joined_data cs) + n) (bitmaps-area cs e)

-- a set whose PCS stands at a place, and its objects
module _ (s : List ℕ) {at : ℕ} (b : SetBegins s at) where
  abbrev its : DisplaySet
  its = set_at s at

  abbrev all : List Chain
  all = objects_in its

  -- where the data is joined, the records show it
  data-shown : (scratch : List ℕ) {scratch' : List ℕ} → scratch' ≡ laid accepted (joined_data all) scratch
      → map (record_data s scratch') (object_records all) ≡ map data_of all
  data-shown scratch e =
      ap (λ (l : List ℕ). map (record_data s l) (object_records all)) e
      ∙ placed-data s b (drop (length (joined_data all)) scratch)

  -- the needs of a set, as the code adds them up
  module _ {rs : List ObjectRecord} (l : Listed its rs) where
    pub listed-total : records_joined rs ≡ length (joined_data all)
    listed-total = ap records_joined l.objects ∙ total_of 0 all

    -- its joined data is no longer than the stream
    pub listed-within : records_joined rs ≤ length s
    listed-within = omega (arith, listed-total, joined-within s b l.taken)

    listed-area : records_area rs ≡ area_of all
    listed-area = ap records_area l.objects ∙ area_of_lem 0 all

    -- and its bitmaps are not long
    pub listed-low : Bytes s → records_area rs ≤ 274877906944
    listed-low h = omega (arith, listed-area, area-within s b h l.taken)

    pub area-sum : records_area rs ≡ sum_by record_area rs
    area-sum = is_sum_by records_area record_area refl (λ r rs. refl) rs

    -- 34
    module _ (scratch plane : List ℕ) where
      pub scratch-short : length scratch < records_joined rs + records_area rs → early_verdict accepted its all (length scratch) (length plane) ≡ refused 34
      scratch-short h =
          ap (λ (b : Bool). and_then (unless 34 b) (needing (4 * (composition_of its).width * (composition_of its).height) (length plane)))
          (lt-leb (length (joined_data all) + area_of all) (length scratch) (omega (arith, listed-total, listed-area, h)))

      module _ (fits : records_joined rs + records_area rs ≤ length scratch) where
        pub scratch-room : length (joined_data all) + area_of all ≤ length scratch
        scratch-room = omega (arith, listed-total, listed-area, fits)

        enough : leb (length (joined_data all) + area_of all) (length scratch) ≡ true
        enough = le-leb (length (joined_data all) + area_of all) (length scratch) scratch-room

        module _ {size : Dimensions} (p : size ≡ (answer_of its).size) where
          plane-need : 4 * (composition_of its).width * (composition_of its).height ≡ 4 * size.width * size.height
          plane-need = ap (λ (x : Dimensions). 4 * x.width * x.height) (sym p)

          pub plane-short : length plane < 4 * size.width * size.height → early_verdict accepted its all (length scratch) (length plane) ≡ refused 34
          plane-short h =
              λ j.
              and_then (unless 34 (enough j))
              (unless 34 ((ap (λ (n : ℕ). leb n (length plane)) plane-need ∙ lt-leb (4 * size.width * size.height) (length plane) h) j))

          pub all_room : 4 * size.width * size.height ≤ length plane → early_verdict accepted its all (length scratch) (length plane) ≡ accepted
          all_room h =
              λ j.
              and_then (unless 34 (enough j))
              (unless 34 ((ap (λ (n : ℕ). leb n (length plane)) plane-need ∙ le-leb (4 * size.width * size.height) (length plane) h) j))

          pub readied : 4 * size.width * size.height ≤ length plane → {scratch' : List ℕ} {v : Verdict} → JoinedAndRead its scratch scratch' v
              → v ≡ accepted → length scratch' ≡ length scratch → {joined : ℕ} → joined ≡ records_joined rs → Ready its joined scratch' plane
          readied h {scratch'} w a long {joined} j =
              record {
                content = sym w.content ∙ a;
                size = j ∙ listed-total;
                begins =
                    w.joined
                    ∙ ap (λ (x : List ℕ). joined_data all ++ x)
                    (sym
                    (ap (drop (length (joined_data all))) w.joined
                    ∙ drop_at (joined_data all) (drop (length (joined_data all)) scratch) (length (joined_data all)) refl));
                room = omega (arith, j, listed-total, scratch-room, long);
                plane_room = omega (arith, plane-need, h);
              }

    -- the data joined by the call that does it, for the set behind its PCS
    pub joins : {t : List ℕ} {from : ℕ} → t ≡ s → from ≡ at + used_by (drop at s) → {scratch scratch' : List ℕ} {v : Verdict}
        → length (joined_data all) ≤ length scratch
        → Joined (fragments_verdict object_limit (fragments_left t from)) (chains_of (fragments_left t from)) scratch scratch' v
        → scratch' ≡ laid accepted (joined_data all) scratch
    joins es ef {scratch} room d =
        (rw (es, ef, ← begin-fragments s b) at d).written
        ∙ (λ j. laid (and_then (l.taken j) (unless 34 (le-leb (length (joined_data all)) (length scratch) room j))) (joined_data all) scratch)

    -- 24 to 33
    pub reads-content : {placements : List CompositionObject} → placements ≡ placements_in its → {scratch scratch' : List ℕ}
        → scratch' ≡ laid accepted (joined_data all) scratch
        → {v : Verdict} → v ≡ and_then (records_reading s scratch' rs) (unless 33 (all_present rs placements))
        → JoinedAndRead its scratch scratch' v
    reads-content {placements = placements} p {scratch} {scratch'} e q =
        record {
          content =
              q
              ∙ (λ j. and_then (records_reading s scratch' (l.objects j)) (unless 33 (all_present (l.objects j) (p j))))
              ∙ (λ j. and_then (reading-of s scratch' 0 all (data-shown scratch e) j) (present-of 0 all (placements_in its) j));
          joined = e;
        }

    -- what cannot fail after that
    module _ {joined : ℕ} {scratch plane : List ℕ} (r : Ready its joined scratch plane) where
      accepts : bitmaps_verdict all ≡ accepted
      accepts = first-accepts (bitmaps_verdict all) _ r.content

      pub ready-present : all_present rs (placements_in its) ≡ true
      ready-present =
          holds 33 (all_present rs (placements_in its))
          (ap (λ (l : List ObjectRecord). unless 33 (all_present l (placements_in its))) l.objects
          ∙ present-of 0 all (placements_in its)
          ∙ second_holds (bitmaps_verdict all) _ r.content)

      pub ready-storable : AllStorable s rs joined scratch
      ready-storable =
          record {
            room = omega (arith, listed-area, r.room);
            held = rw l.objects (records-held 0 joined all (omega (arith, r.size)));
            reads = ap (records_reading s scratch) l.objects ∙ reading-of s scratch 0 all (data-shown scratch r.begins) ∙ accepts;
          }

      pub ready-room : joined + records_area rs ≤ length scratch
      ready-room = omega (arith, listed-area, r.room)

      all_left : joined + records_area rs ≡ length (joined_data all ++ bitmaps_of all)
      all_left = omega (arith, listed-area, r.size, left-length all accepts)

      module _ {scratch' : List ℕ} (e : scratch' ≡ take joined scratch ++ (records_bitmaps s scratch rs ++ drop (joined + records_area rs) scratch)) where
        in_order : scratch' ≡ joined_data all ++ (bitmaps_of all ++ drop (joined + records_area rs) scratch)
        in_order =
            e
            ∙ (λ j.
            (ap (take joined) r.begins ∙ take_at (joined_data all) (drop (length (joined_data all)) scratch) joined (sym r.size)) j
            ++ ((ap (records_bitmaps s scratch) l.objects ∙ bitmaps-of s scratch 0 all (data-shown scratch r.begins)) j ++ drop (joined + records_area rs) scratch))

        pub ready-stored : scratch' ≡ laid accepted (left_by accepted all) scratch
        ready-stored =
            in_order
            ∙ sym (append_assoc (joined_data all) (bitmaps_of all) (drop (joined + records_area rs) scratch))
            ∙ ap (λ (n : ℕ). (joined_data all ++ bitmaps_of all) ++ drop n scratch) all_left

        looks : (id : ℕ) → look_at scratch' joined rs id ≡ look_in all id
        looks id =
            ap (λ (rs : List ObjectRecord). look_at scratch' joined rs id) l.objects
            ∙ look-same scratch' (drop (joined + records_area rs) scratch) joined 0 all id accepts
            (ap (drop joined) in_order
            ∙ drop_at (joined_data all) (bitmaps_of all ++ drop (joined + records_area rs) scratch) joined (sym r.size))

        -- the plane, with the palettes of the set behind its PCS
        module _ {u : List ℕ} {from : ℕ} (es : u ≡ s) (ef : from ≡ at + used_by (drop at s)) {pcs : Pcs} (p : pcs ≡ composition_of its) (h : Bytes s)
            {t : List ℕ} (et : t ≡ table.laid rgb_of (entries_among pcs.palette_id (through_end (pieces_at u from))) empty_table) where
          others : through_end (pieces_at s (at + used_by (drop at s))) ≡ its.others
          others = sym (ap (λ (d : DisplaySet). d.others) (set_here s b.standing b.more))

          colors : (i : ℕ) → table_color t i ≡ color_shown rgb_of (entries_among (composition_of its).palette_id its.others) i
          colors i =
              ap (λ (x : List ℕ). table_color x i) (et ∙ (λ j. table.laid rgb_of (entries_among pcs.palette_id (through_end (pieces_at (es j) (ef j)))) empty_table))
              ∙ empty-shown (entries_among pcs.palette_id (through_end (pieces_at s (at + used_by (drop at s))))) (few-ids pcs.palette_id s (at + used_by (drop at s)) h) i
              ∙ (λ j. color_shown rgb_of (entries_among (p j).palette_id (others j)) i)

          pub ready-painted : {size : Dimensions} → size ≡ (answer_of its).size
              → {placements : List CompositionObject} → placements ≡ placements_in its
              → {answer : Verdict} {cleared' plane' : List ℕ} → Clears size.width size.height plane answer cleared'
              → plane' ≡ painted_all (table_color t) (look_at scratch' joined rs) placements size.width size.height cleared'
              → plane' ≡ laid accepted (picture_of (colors_in rgb_of its) (look_in all) its) plane
          ready-painted {size} es ep c q =
              q
              ∙ (λ j.
              painted_all (table_color t) (look_at scratch' joined rs) (ep j) size.width size.height
              ((c.plane ∙ ap (λ (b : Bool). pick b (cleared size.width size.height plane) plane) (le-leb (4 * size.width * size.height) (length plane) room)) j))
              ∙ last-wins (table_color t) (λ i. refl) (look_at scratch' joined rs) (placements_in its) size.width size.height plane
              ∙ (λ j.
              plane_shown (λ i. colors i j) (λ id. looks id j) (placements_in its) (es j).width (es j).height
              ++ drop (4 * (es j).width * (es j).height) plane)
              ∙ ap (λ (n : ℕ). picture_of (colors_in rgb_of its) (look_in all) its ++ drop n plane)
              (sym (picture-length rgb_of its all))
            where
              room : 4 * size.width * size.height ≤ length plane
              room = omega (arith, ap (λ (x : Dimensions). 4 * x.width * x.height) es, r.plane_room)

-- how painting a set ends, where finding its objects has this verdict
module _ (d : DisplaySet) where
  abbrev cs : List Chain
  cs = objects_in d

  module _ {v : Verdict} {scratch plane : List ℕ} where
    pub renders-none : {n : ℕ}
        → early_verdict v d cs (length scratch) (length plane)
        ≡ refused n
        → Rendered rgb_of v d cs scratch scratch plane plane
        (outcome_of (refused n) (answer_of d))
    renders-none e =
        record {
          answered = sym
              (ap
              (λ (v : Verdict). outcome_of (and_then v (content_verdict d cs))
              (answer_of d)) e);
          stored = sym
              (ap
              (λ (v : Verdict). laid v (left_by (content_verdict d cs) cs)
              scratch) e);
          shown = sym
              (ap
              (λ (v : Verdict). laid (and_then v (content_verdict d cs))
              (picture_of (colors_in rgb_of d) (look_in cs) d) plane) e);
        }

    module _ (open-to : early_verdict v d cs (length scratch) (length plane) ≡ accepted) where
      pub renders-joined : {n : ℕ} {scratch' : List ℕ} → content_verdict d cs ≡ refused n
          → scratch' ≡ laid accepted (joined_data cs) scratch
          → Rendered rgb_of v d cs scratch scratch' plane plane
          (outcome_of (refused n) (answer_of d))
      renders-joined {n} e q =
          record {
            answered = λ j. outcome_of (and_then (sym open-to j) (sym e j)) (answer_of d);
            stored =
                q
                ∙ ap (λ (x : List ℕ). laid accepted x scratch) (sym (append-nil (joined_data cs)))
                ∙ (λ j. laid (sym open-to j) (left_by (sym e j) cs) scratch);
            shown = λ j. laid (and_then (sym open-to j) (sym e j)) (picture_of (colors_in rgb_of d) (look_in cs) d) plane;
          }

      pub renders-all : {scratch₁ scratch₂ plane₂ : List ℕ} → content_verdict d cs ≡ accepted
          → scratch₁ ≡ laid accepted (joined_data cs) scratch → Showing d scratch₁ scratch₂ plane plane₂
          → Rendered rgb_of v d cs scratch scratch₂ plane plane₂ (outcome_of accepted (answer_of d))
      renders-all {scratch₁} e q w =
          record {
            answered = λ j. outcome_of (and_then (sym open-to j) (sym e j)) (answer_of d);
            stored =
                w.stored
                ∙ ap (λ (x : List ℕ). (joined_data cs ++ bitmaps_of cs) ++ x) behind
                ∙ (λ j. laid (sym open-to j) (left_by (sym e j) cs) scratch);
            shown = w.shown ∙ (λ j. laid (and_then (sym open-to j) (sym e j)) (picture_of (colors_in rgb_of d) (look_in cs) d) plane);
          }
        where
          J : ℕ
          J = length (joined_data cs)

          far : length (joined_data cs ++ bitmaps_of cs) ≡ J + length (bitmaps_of cs)
          far = length-append (joined_data cs) (bitmaps_of cs)

          behind : drop (length (joined_data cs ++ bitmaps_of cs)) scratch₁
              ≡ drop (length (joined_data cs ++ bitmaps_of cs)) scratch
          behind =
              ap (λ (n : ℕ). drop n scratch₁) far
              ∙ sym (drop-drop (length (bitmaps_of cs)) J scratch₁)
              ∙ ap (drop (length (bitmaps_of cs))) (ap (drop J) q ∙ drop_at (joined_data cs) (drop J scratch) J refl)
              ∙ drop-drop (length (bitmaps_of cs)) J scratch
              ∙ ap (λ (n : ℕ). drop n scratch) (sym far)
