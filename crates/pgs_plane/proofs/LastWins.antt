-- Placements painted in order onto a cleared plane: each pixel shows the last that covers it. Assumes nothing.
use mathlib.Core.Path.{◌≡◌, refl, sym, ap, ◌∙◌}
use mathlib.Core.List.{List, [], ◌∷◌, ◌++◌, append-nil}
use mathlib.Core.Option.{Option, none, some}
use Prim.Native.Nat.{ℕ, suc, ◌+◌, ◌*◌}
use lib.ListN.{length, drop}
use lib.Seq.{drop_at}
use Rattle.pgs_pcs.specs.declared.pcs.CompositionObject.{CompositionObject}
use Rattle.pgs_plane.specs.Strips.{strip, pieces}
use Rattle.pgs_plane.specs.Placing.{Image, index_shown}
use Rattle.pgs_plane.specs.Pictures.{Picture, Layer, plane_of, transparent, color_over, row_painted, painted, Covering, numbered, index_of, or_else, covering_from, plane_shown, cleared, painted_all}
use Rattle.pgs_plane.proofs.StripLaws.{strip-same, strip-length, pieces-strip}

-- a pixel that two layers may cover
over-over : (color : ℕ → List ℕ) (below : List ℕ) (n : ℕ) (first : Option ℕ) (later : Option Covering)
    → color_over color (color_over color below first) (index_of later) ≡ color_over color below (index_of (or_else later (numbered n first)))
over-over color below n none none = refl
over-over color below n (some i) none = refl
over-over color below n first (some c) = refl

module _ (color : ℕ → List ℕ) (four : (k : ℕ) → length (color k) ≡ 4) where
  over-four : (below : List ℕ) (o : Option ℕ) → length below ≡ 4 → length (color_over color below o) ≡ 4
  over-four below none h = h
  over-four below (some i) h = four i

  module _ (f : Picture) (size : (x y : ℕ) → length (f x y) ≡ 4) (layer : Layer) (w h : ℕ) where
    row-over : (y : ℕ) → row_painted color layer w y (strip (λ x. f x y) 0 w) ≡ strip (λ x. color_over color (f x y) (layer x y)) 0 w
    unfolding row_painted
    row-over y =
        ap (λ (l : List ℕ). pieces (λ x below. color_over color below (layer x y)) 4 0 w l) (sym (append-nil (strip (λ x. f x y) 0 w)))
        ∙ pieces-strip (λ x below. color_over color below (layer x y)) 4 (λ x. f x y) 0 w [] (λ x. size x y)

    -- a layer over the plane of a picture
    pub plane-over : (rest : List ℕ) → painted color layer w h (plane_of f w h ++ rest) ≡ plane_of (λ x y. color_over color (f x y) (layer x y)) w h ++ rest
    unfolding painted plane_of
    plane-over rest =
        λ i.
        (pieces-strip (row_painted color layer w) (4 * w) (λ y. strip (λ x. f x y) 0 w) 0 h rest (λ y. row-size y)
        ∙ strip-same (λ y. row_painted color layer w y (strip (λ x. f x y) 0 w)) (λ y. strip (λ x. color_over color (f x y) (layer x y)) 0 w) 0 0 h (λ k below. row-over (0 + k)))
        i
        ++ drop_at (strip (λ y. strip (λ x. f x y) 0 w) 0 h) rest (4 * w * h) (strip-length (λ y. strip (λ x. f x y) 0 w) (4 * w) 0 h row-size) i
      where
        row-size : (y : ℕ) → length (strip (λ x. f x y) 0 w) ≡ 4 * w
        row-size y = strip-length (λ x. f x y) 4 0 w (λ x. size x y)

  -- placements painted in order over the plane of a picture
  painted-in-order : (look : ℕ → Image) (ps : List CompositionObject) (n : ℕ) (f : Picture) (w h : ℕ) (rest : List ℕ)
      → ((x y : ℕ) → length (f x y) ≡ 4)
      → painted_all color look ps w h (plane_of f w h ++ rest) ≡ plane_of (λ x y. color_over color (f x y) (index_of (covering_from look n ps x y))) w h ++ rest
  painted-in-order look [] n f w h rest size = refl
  painted-in-order look (p ∷ ps) n f w h rest size =
      let layer = index_shown p (look p.object_id) in
      ap (λ (l : List ℕ). painted_all color look ps w h l) (plane-over f size layer w h rest)
      ∙ painted-in-order look ps (suc n) (λ x y. color_over color (f x y) (layer x y)) w h rest (λ x y. over-four (f x y) (layer x y) (size x y))
      ∙ (λ i. plane_of (λ x y. over-over color (f x y) n (layer x y) (covering_from look (suc n) ps x y) i) w h ++ rest)

  -- 01: "Each plane pixel shows the last placement that covers it .., else 00 00 00 00"
  pub last-wins : (look : ℕ → Image) (ps : List CompositionObject) (w h : ℕ) (plane : List ℕ)
      → painted_all color look ps w h (cleared w h plane) ≡ plane_shown color look ps w h ++ drop (4 * w * h) plane
  last-wins look ps w h plane = painted-in-order look ps 0 (λ x y. transparent) w h (drop (4 * w * h) plane) (λ x y. refl)
