-- What `covering_at` says of a pixel: the placement of that number covers it with that index, and no later one covers it; or none does.
use mathlib.Core.Path.{◌≡◌, refl, sym, ap, ◌∙◌}
use mathlib.Core.List.{List, [], ◌∷◌, ◌++◌}
use mathlib.Core.Option.{Option, none, some}
use Prim.Native.Nat.{ℕ, suc, ◌+◌}
use native.Mathlib.Omega.{arith}
use lib.ListN.{length}
use Rattle.pgs_pcs.specs.declared.pcs.CompositionObject.{CompositionObject}
use Rattle.pgs_plane.specs.Placing.{Image, index_shown}
use Rattle.pgs_plane.specs.Pictures.{Covering, numbered, or_else, covering_from, covering_at}

module _ (look : ℕ → Image) (x y : ℕ) where
  -- no placement of a list covers x and y
  pub data Uncovered : List CompositionObject → Type 0 where
    nothing : Uncovered []
    also : {p : CompositionObject} {ps : List CompositionObject} → index_shown p (look p.object_id) x y ≡ none → Uncovered ps → Uncovered (p ∷ ps)

  -- of placements numbered from n on, the one of this number covers x and y with this index, and those after it do not
  pub record Last (n : ℕ) (ps : List CompositionObject) (c : Covering) : Type 0 where
    pub earlier : List CompositionObject
    pub shown : CompositionObject
    pub later : List CompositionObject
    pub parts : ps ≡ earlier ++ (shown ∷ later)
    pub place : c.number ≡ n + length earlier
    pub covers : index_shown shown (look shown.object_id) x y ≡ some c.index
    pub bare : Uncovered later

  never : {B : Type 0} {c : Covering} → none ≡ some c → B
  never {B} {c} e = let z : ◌≡◌ {A = ℕ} 0 1 = cc in absurd (omega arith)

  module _ (n : ℕ) (p : CompositionObject) (ps : List CompositionObject) where
    none-step : (covering_from look (suc n) ps x y ≡ none → Uncovered ps)
        → (o : Option Covering)
        → covering_from look (suc n) ps x y ≡ o
        → (s : Option ℕ)
        → index_shown p (look p.object_id) x y ≡ s
        → or_else o (numbered n s) ≡ none
        → Uncovered (p ∷ ps)
    none-step further none q none r h = also r (further q)
    none-step further none q (some i) r h = never (sym h)
    none-step further (some c) q s r h = never (sym h)

    last_step : (c : Covering)
        → (covering_from look (suc n) ps x y ≡ none → Uncovered ps)
        → (covering_from look (suc n) ps x y ≡ some c → Last (suc n) ps c)
        → (o : Option Covering)
        → covering_from look (suc n) ps x y ≡ o
        → (s : Option ℕ)
        → index_shown p (look p.object_id) x y ≡ s
        → or_else o (numbered n s) ≡ some c
        → Last n (p ∷ ps) c
    last_step c bare further none q none r h = never h
    last_step c bare further none q (some i) r h =
        record { earlier = []; shown = p; later = ps; parts = refl; place = let at : c.number ≡ n = cc in omega (arith, at); covers = cc; bare = bare q }
    last_step c bare further (some d) q s r h =
        let rest = further (q ∙ h) in
        record {
          earlier = p ∷ rest.earlier;
          shown = rest.shown;
          later = rest.later;
          parts = ap (λ (l : List CompositionObject). p ∷ l) rest.parts;
          place = let at = rest.place in omega (arith, at);
          covers = rest.covers;
          bare = rest.bare;
        }

  none_from : (n : ℕ) (ps : List CompositionObject) → covering_from look n ps x y ≡ none → Uncovered ps
  none_from n [] e = nothing
  none_from n (p ∷ ps) e =
      none-step n p ps (none_from (suc n) ps) (covering_from look (suc n) ps x y) refl (index_shown p (look p.object_id) x y) refl e

  last-from : (n : ℕ) (ps : List CompositionObject) (c : Covering) → covering_from look n ps x y ≡ some c → Last n ps c
  last-from n [] c e = never e
  last-from n (p ∷ ps) c e =
      last_step n p ps c (none_from (suc n) ps) (last-from (suc n) ps c) (covering_from look (suc n) ps x y) refl (index_shown p (look p.object_id) x y) refl e

  -- the pixel shows a placement: the last that covers it, by its number from 0
  pub last-covers : (ps : List CompositionObject) (c : Covering) → covering_at look ps x y ≡ some c → Last 0 ps c
  last-covers ps c e = last-from 0 ps c e

  -- the pixel shows none: no placement covers it
  pub none-covers : (ps : List CompositionObject) → covering_at look ps x y ≡ none → Uncovered ps
  none-covers ps e = none_from 0 ps e
