-- Finding bitmaps in the scratch, and painting placements in order. Assumes nothing.
use Rattle.std.specs.Prelude.{Option, None, Some, IsSome, MatchOption}
use mathlib.Core.Path.{◌≡◌, refl, sym, ap, subst, ◌∙◌}
use mathlib.Core.Bool.{Bool, true, false, ◌||◌, ◌&&◌}
use mathlib.Core.List.{List, [], ◌∷◌}
use Prim.Native.Nat.{ℕ, ◌+◌, ◌-◌, ◌*◌, ◌≤◌}
use native.Mathlib.Omega.{arith}
use lib.Dec.{eqb}
use lib.ListN.{length, take, drop, length-drop}
use lib.Seq.{length-take-le}
use Rattle.pgs_base.specs.Outcome.{Verdict, pick}
use Rattle.pgs_plane.specs.Calls.{all_fit, Paints}
use Rattle.pgs_plane.specs.Pictures.{painted, painted_all}
use Rattle.pgs_plane.specs.Placing.{Image, image_of, index_shown, table_color}
use Rattle.pgs_plane.proofs.CallLaws.{all-fit}
use Rattle.pgs_pcs.specs.declared.pcs.CompositionObject.{CompositionObject}
use Rattle.pgs_reassembly.specs.declared.ObjectRecord.{ObjectRecord}
use Rattle.pgs_rendering.specs.Records.{record_area, records_area, has_record, all_present, bitmap_at, image_or, look_at}

-- a part as the code lends it
pub lent-part : (place area : ℕ) (l : List ℕ) → take (place + area - place) (drop place l) ≡ take area (drop place l)
lent-part place area l = let e : place + area - place ≡ area = omega arith in ap (λ (n : ℕ). take n (drop place l)) e

-- the bitmap of a record that stands at a place
abbrev pub image_at : List ℕ → ℕ → ObjectRecord → Image
image_at scratch at r = image_of r.size.width r.size.height (take (record_area r) (drop at scratch))

-- the ids of i records are others, and the bitmap of the next one stands at `at`
pub record Seeing (rs : List ObjectRecord) (scratch : List ℕ) (from id i at : ℕ) : Type 0 where
  pub within : i ≤ length rs
  pub found : bitmap_at scratch at (drop i rs) id ≡ bitmap_at scratch from rs id
  pub room : at + records_area (drop i rs) ≡ from + records_area rs

-- an object that is there has a bitmap, with an index for each pixel
pub record Found (o : Option Image) : Type 0 where
  pub image : Image
  pub itself : o ≡ Some image
  pub full : image.image_width * image.image_height ≤ length image.indices

bitmap-found : (scratch : List ℕ) (at : ℕ) (rs : List ObjectRecord) (id : ℕ) → at + records_area rs ≤ length scratch → has_record rs id ≡ true
    → Found (bitmap_at scratch at rs id)
bitmap-found scratch at [] id h e = cc
bitmap-found scratch at (r ∷ rs) id h e = go (eqb r.id id) (bitmap-found scratch (at + record_area r) rs id (omega (arith, h))) e
  where
    go : (b : Bool) → (has_record rs id ≡ true → Found (bitmap_at scratch (at + record_area r) rs id)) → (b || has_record rs id) ≡ true
        → Found (pick b (Some (image_at scratch at r)) (bitmap_at scratch (at + record_area r) rs id))
    go true ih e =
        record {
          image = image_at scratch at r;
          itself = refl;
          full = omega (arith, length-take-le (record_area r) (drop at scratch) (rw length-drop (omega (arith, h))));
        }
    go false ih e = ih e

-- a value that is there, by what an answer says
pub there-by : {A : Type 0} {P : Type 0} (Q : A → Type 0) (o : Option A) → MatchOption o P Q → (P → ⊥) → IsSome o
there-by Q None m n = absurd (n m)
there-by Q (Some x) m n = refl

-- the placements before `left` are painted
pub record Painting (ps left : List CompositionObject) (rs : List ObjectRecord) (from : ℕ) (scratch table : List ℕ) (w h : ℕ) (start plane : List ℕ) : Type 0 where
  pub same : length plane ≡ length start
  pub present : all_present rs left ≡ true
  pub shows : painted_all (table_color table) (look_at scratch from rs) left w h plane
      ≡ painted_all (table_color table) (look_at scratch from rs) ps w h start

module _ {ps : List CompositionObject} {rs : List ObjectRecord} {from : ℕ} {scratch table : List ℕ} {w h : ℕ} {start : List ℕ} where
  pub painting : all_present rs ps ≡ true → Painting ps ps rs from scratch table w h start start
  painting e = record { same = refl; present = e; shows = refl }

  module _ {left : List CompositionObject} {plane : List ℕ} (c : Painting ps left rs from scratch table w h start plane) where
    module _ {p : CompositionObject} {rest : List CompositionObject} (e : left ≡ p ∷ rest) where
      both : (b t : Bool) → (b && t) ≡ true → (b ≡ true) × (t ≡ true)
      both true t q = (refl, q)
      both false t q = cc

      there : (has_record rs p.object_id ≡ true) × (all_present rs rest ≡ true)
      there = both (has_record rs p.object_id) (all_present rs rest) (ap (all_present rs) (sym e) ∙ c.present)

      -- its object has a bitmap
      pub paints-found : from + records_area rs ≤ length scratch → Found (bitmap_at scratch from rs p.object_id)
      paints-found room = bitmap-found scratch from rs p.object_id room there.0

      module _ (room : from + records_area rs ≤ length scratch) {image : Image} (eb : bitmap_at scratch from rs p.object_id ≡ Some image) where
        full : image.image_width * image.image_height ≤ length image.indices
        full =
            let f = paints-found room in
            let q : f.image ≡ image = let k : Some f.image ≡ Some image = sym f.itself ∙ eb in cc in
            subst (λ (i : Image). i.image_width * i.image_height ≤ length i.indices) q f.full

        pub paints-on : 1024 ≤ length table → 4 * w * h ≤ length start
            → {answer : Verdict} {plane' : List ℕ} → Paints p image table w h plane answer plane'
            → length plane' ≡ length plane
            → Painting ps rest rs from scratch table w h start plane'
        paints-on tab big {answer} {plane'} call long =
            record {
              same = long ∙ c.same;
              present = there.1;
              shows =
                  ap (λ (l : List ℕ). painted_all (table_color table) (look_at scratch from rs) rest w h l) done
                  ∙ ap (λ (l : List CompositionObject). painted_all (table_color table) (look_at scratch from rs) l w h plane) (sym e)
                  ∙ c.shows;
            }
          where
            met : all_fit image table w h plane ≡ true
            met = all-fit image table w h plane (omega (arith, c.same)) tab full

            done : plane' ≡ painted (table_color table) (index_shown p (look_at scratch from rs p.object_id)) w h plane
            done =
                call.plane
                ∙ ap (λ (t : Bool). pick t (painted (table_color table) (index_shown p image) w h plane) plane) met
                ∙ ap (λ (o : Option Image). painted (table_color table) (index_shown p (image_or o)) w h plane) (sym eb)
