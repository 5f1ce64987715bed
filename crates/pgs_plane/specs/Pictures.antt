-- Pictures as functions of x and y, the planes that they are, and the placement that a pixel shows: 01, 'Plane'.
use Rattle.std.specs.Prelude.{List, [], ◌∷◌, ◌++◌, ℕ, suc, ◌*◌, drop}
use Rattle.std.proofs.Math.Option.{Option, none, some}
use Rattle.pgs_pcs.specs.declared.pcs.CompositionObject.{CompositionObject}
use Rattle.pgs_plane.specs.Strips.{strip, pieces}
use Rattle.pgs_plane.specs.Placing.{Image, index_shown}

-- the four bytes at x and y
abbrev pub Picture : Type 0
Picture = (x y : ℕ) → List ℕ

-- the palette index that covers x and y, or none
abbrev pub Layer : Type 0
Layer = (x y : ℕ) → Option ℕ

-- "Pixels are R, G, B, alpha, row by row." "Parts beyond plane or object are skipped": a plane has no others.
unfoldable pub plane_of : Picture → (width height : ℕ) → List ℕ
plane_of f width height = strip (λ y. strip (λ x. f x y) 0 width) 0 height

-- "else 00 00 00 00"
abbrev pub transparent : List ℕ
transparent = 0 ∷ 0 ∷ 0 ∷ 0 ∷ []

-- "A covering transparent pixel replaces what was below."
abbrev pub color_over : (ℕ → List ℕ) → List ℕ → Option ℕ → List ℕ
color_over color below none = below
color_over color below (some i) = color i

-- one row of a plane with a layer over it
unfoldable pub row_painted : (ℕ → List ℕ) → Layer → (width y : ℕ) → List ℕ → List ℕ
row_painted color layer width y row = pieces (λ x below. color_over color below (layer x y)) 4 0 width row

-- a plane with a layer over it; what lies past the plane stays
unfoldable pub painted : (ℕ → List ℕ) → Layer → (width height : ℕ) → List ℕ → List ℕ
painted color layer width height plane = pieces (row_painted color layer width) (4 * width) 0 height plane ++ drop (4 * width * height) plane

-- the placement that a pixel shows, as its number among the placements, from 0, and its bitmap's index there
pub record Covering : Type 0 where
  pub number : ℕ
  pub index : ℕ

abbrev pub numbered : ℕ → Option ℕ → Option Covering
numbered n none = none
numbered n (some i) = some (record { number = n; index = i })

abbrev pub index_of : Option Covering → Option ℕ
index_of none = none
index_of (some c) = some c.index

abbrev pub or_else : {A : Type 0} → Option A → Option A → Option A
or_else (some a) o = some a
or_else none o = o

-- "Each plane pixel shows the last placement that covers it": of placements numbered from n on, with an image for each object id
abbrev pub covering_from : (ℕ → Image) → ℕ → List CompositionObject → (x y : ℕ) → Option Covering
covering_from look n [] x y = none
covering_from look n (p ∷ ps) x y = or_else (covering_from look (suc n) ps x y) (numbered n (index_shown p (look p.object_id) x y))

abbrev pub covering_at : (ℕ → Image) → List CompositionObject → (x y : ℕ) → Option Covering
covering_at look ps x y = covering_from look 0 ps x y

-- the plane of a list of placements
abbrev pub plane_shown : (ℕ → List ℕ) → (ℕ → Image) → List CompositionObject → (width height : ℕ) → List ℕ
plane_shown color look ps width height = plane_of (λ x y. color_over color transparent (index_of (covering_at look ps x y))) width height

-- a cleared plane shows no placement
abbrev pub cleared : (width height : ℕ) → List ℕ → List ℕ
cleared width height plane = plane_of (λ x y. transparent) width height ++ drop (4 * width * height) plane

-- placements painted in order; that this on a cleared plane is `plane_shown` is the law `last-wins`
abbrev pub painted_all : (ℕ → List ℕ) → (ℕ → Image) → List CompositionObject → (width height : ℕ) → List ℕ → List ℕ
painted_all color look [] width height plane = plane
painted_all color look (p ∷ ps) width height plane =
    painted_all color look ps width height (painted color (index_shown p (look p.object_id)) width height plane)
