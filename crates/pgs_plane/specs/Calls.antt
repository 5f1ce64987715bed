-- What a call that paints answers, and what it leaves in the plane lent to it: 01, 'Why a call is turned down'.
use Rattle.std.specs.Prelude.{◌≡◌, Bool, ◌&&◌, List, ℕ, ◌*◌, leb, length}
use Rattle.pgs_base.specs.Outcome.{Verdict, unless, pick}
use Rattle.pgs_pcs.specs.declared.pcs.CompositionObject.{CompositionObject}
use Rattle.pgs_plane.specs.Placing.{Image, index_shown, table_color}
use Rattle.pgs_plane.specs.Pictures.{cleared, painted}

-- "for painting, .. plane four times its area"
abbrev pub plane_fits : (width height : ℕ) → List ℕ → Bool
plane_fits width height plane = leb (4 * width * height) (length plane)

-- the plane's room, four bytes for each of the 256 indices in the table, and width times height indices of the bitmap: 01 does not say
-- what is needed of the last two
abbrev pub all_fit : Image → List ℕ → (width height : ℕ) → List ℕ → Bool
all_fit image table width height plane =
    plane_fits width height plane && (leb 1024 (length table) && leb (image.image_width * image.image_height) (length image.indices))

-- a call that changes a plane where its needs are met; else it is refused with 34: "a lent buffer or list is too short"
pub record Changes (met : Bool) (change : List ℕ → List ℕ) (before : List ℕ) (answer : Verdict) (after : List ℕ) : Type 0 where
  pub answered : answer ≡ unless 34 met
  pub plane : after ≡ pick met (change before) before

-- the contract of `clear_plane`
abbrev pub Clears : (width height : ℕ) → List ℕ → Verdict → List ℕ → Type 0
Clears width height before = Changes (plane_fits width height before) (cleared width height) before

-- the contract of `paint_placement`
abbrev pub Paints : CompositionObject → Image → List ℕ → (width height : ℕ) → List ℕ → Verdict → List ℕ → Type 0
Paints p image table width height before =
    Changes (all_fit image table width height before) (painted (table_color table) (index_shown p image) width height) before
