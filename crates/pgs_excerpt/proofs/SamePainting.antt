-- Painting an excerpt is painting the set in its stream: no part of painting looks at an object's place in the stream. Assumes nothing.
use mathlib.Core.Path.{◌≡◌, refl, sym, ap, ◌∙◌, subst}
use mathlib.Core.Bool.{true}
use mathlib.Core.List.{List, [], ◌∷◌, ◌++◌, map}
use Prim.Native.Nat.{ℕ, ◌+◌, ◌*◌}
use lib.Dec.{eqb}
use lib.ListN.{length, get_or}
use Rattle.pgs_base.specs.Outcome.{Verdict, Outcome, and_then, needing, is_accepted, laid, outcome_of, pick}
use Rattle.pgs_bitmap_check.specs.Bitmap.{reading_of, bitmap_of}
use Rattle.pgs_palette.specs.Palette.{Conversion}
use Rattle.pgs_plane.specs.Placing.{image_of}
use Rattle.pgs_reassembly.specs.Objects.{Fragment, Chain, object_id, width_of, height_of, objects_of, objects_verdict}
use Rattle.pgs_set.specs.Sets.{set_number, no_set, DisplaySet}
use Rattle.pgs_reassembly.specs.Reassembly.{any_more, joined_data}
use Rattle.pgs_rendering.specs.Images.{look_in, bitmaps_of, area_of, bitmaps_verdict, has_object, placements_verdict}
use Rattle.pgs_rendering.specs.Rendering.{composition_of, colors_in, picture_of, placements_in, render_verdict, early_verdict, content_verdict, left_by, answer_of, Rendered}
use Rattle.pgs_rendering.specs.declared.Shown.{Shown}
use Rattle.pgs_excerpt.specs.Excerpt.{excerpt, at_start, moved_fragment, moved, SamePainting}
use Rattle.pgs_excerpt.proofs.Alone.{alone}
use Rattle.pgs_excerpt.proofs.SameObjects.{data-moved, same-objects}

module _ (n : ℕ) where
  more-moved : (fs : List Fragment) → any_more (map (moved_fragment n) fs) ≡ any_more fs
  more-moved [] = refl
  more-moved (f ∷ fs) = refl

  joined-data-moved : (cs : List Chain) → joined_data (map (moved n) cs) ≡ joined_data cs
  joined-data-moved [] = refl
  joined-data-moved (c ∷ cs) = λ i. pick (more-moved c.further i) (data-moved n c i) [] ++ joined-data-moved cs i

  look-moved : (cs : List Chain) (id : ℕ) → look_in (map (moved n) cs) id ≡ look_in cs id
  look-moved [] id = refl
  look-moved (c ∷ cs) id = λ i. pick (eqb (object_id c) id) (image_of (width_of c) (height_of c) (bitmap_of (data-moved n c i))) (look-moved cs id i)

  bitmaps-moved : (cs : List Chain) → bitmaps_of (map (moved n) cs) ≡ bitmaps_of cs
  bitmaps-moved [] = refl
  bitmaps-moved (c ∷ cs) = λ i. bitmap_of (data-moved n c i) ++ bitmaps-moved cs i

  area-moved : (cs : List Chain) → area_of (map (moved n) cs) ≡ area_of cs
  area-moved [] = refl
  area-moved (c ∷ cs) = λ i. width_of c * height_of c + area-moved cs i

  reading-moved : (cs : List Chain) → bitmaps_verdict (map (moved n) cs) ≡ bitmaps_verdict cs
  reading-moved [] = refl
  reading-moved (c ∷ cs) = λ i. and_then (reading_of (data-moved n c i) (width_of c) (height_of c)).verdict (reading-moved cs i)

  has-moved : (cs : List Chain) (id : ℕ) → has_object (map (moved n) cs) id ≡ has_object cs id
  has-moved [] id = refl
  has-moved (c ∷ cs) id = λ i. pick (eqb (object_id c) id) true (has-moved cs id i)

  module _ (d : DisplaySet) (cs : List Chain) where
    content-moved : content_verdict d (map (moved n) cs) ≡ content_verdict d cs
    content-moved = λ i. and_then (reading-moved cs i) (placements_verdict (λ id. has-moved cs id i) (placements_in d))

    early-moved : (v : Verdict) (a b : ℕ) → early_verdict v d (map (moved n) cs) a b ≡ early_verdict v d cs a b
    early-moved v a b = λ i. and_then v (and_then (needing (length (joined-data-moved cs i) + area-moved cs i) a) (needing (4 * (composition_of d).width * (composition_of d).height) b))

    left-moved : (v : Verdict) → left_by v (map (moved n) cs) ≡ left_by v cs
    left-moved v = λ i. joined-data-moved cs i ++ pick (is_accepted v) (bitmaps-moved cs i) []

    render-moved : (v : Verdict) (a b : ℕ) → render_verdict v d (map (moved n) cs) a b ≡ render_verdict v d cs a b
    render-moved v a b = λ i. and_then (early-moved v a b i) (content-moved i)

    picture-moved : (color : ℕ → List ℕ) → picture_of color (look_in (map (moved n) cs)) d ≡ picture_of color (look_in cs) d
    picture-moved color = λ i. picture_of color (λ id. look-moved cs id i) d

    -- the promise with moved objects is the promise
    promise-moved : (convert : Conversion) (v : Verdict) (scratch scratch' plane plane' : List ℕ) (answer : Outcome Shown)
        → Rendered convert v d cs scratch scratch' plane plane' answer → Rendered convert v d (map (moved n) cs) scratch scratch' plane plane' answer
    promise-moved convert v scratch scratch' plane plane' answer r =
        let early = early-moved v (length scratch) (length plane) in
        let all = render-moved v (length scratch) (length plane) in
        record {
          answered = r.answered ∙ sym (λ i. outcome_of (all i) (answer_of d));
          stored = r.stored
              ∙ sym
              ((λ i. laid (early i) (left_by (content-moved i) (map (moved n) cs)) scratch)
              ∙ (λ i. laid (early_verdict v d cs (length scratch) (length plane)) (left-moved (content_verdict d cs) i)
              scratch));
          shown = r.shown ∙ sym (λ i. laid (all i) (picture-moved (colors_in convert d) i) plane);
        }

pub same-painting : SamePainting
same-painting k s e convert scratch scratch' plane plane' answer r =
    let d = set_number k s in
    let a = alone k s e in
    let o = same-objects k s e in
    let first : set_number 0 (excerpt k s) ≡ at_start d = ap (λ (ds : List DisplaySet). get_or ds 0 no_set) a.1 in
    let there : Rendered convert (objects_verdict k s) (at_start d) (objects_of 0 (excerpt k s)) scratch scratch' plane plane' answer
    = subst (λ (x : DisplaySet). Rendered convert (objects_verdict k s) x (objects_of 0 (excerpt k s)) scratch scratch' plane plane' answer) first
    (subst (λ (v : Verdict). Rendered convert v (set_number 0 (excerpt k s)) (objects_of 0 (excerpt k s)) scratch scratch' plane plane' answer) o.0 r) in
    let here : Rendered convert (objects_verdict k s) d (objects_of 0 (excerpt k s)) scratch scratch' plane plane' answer
    = record { answered = there.answered; stored = there.stored; shown = there.shown } in
    rw o.1 (promise-moved d.place d (objects_of 0 (excerpt k s)) convert (objects_verdict k s) scratch scratch' plane plane' answer here)
