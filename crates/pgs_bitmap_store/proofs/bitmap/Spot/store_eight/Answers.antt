-- `store_eight` meets its contract: the eight pixels stored at once are those stored one by one. Assumes nothing.
use mathlib.Core.List.{List, [], ◌∷◌, ◌++◌, append_assoc}
use mathlib.Core.Path.{◌≡◌, refl, sym, ap, ◌∙◌, subst, subst₂}
use Prim.Native.Nat.{ℕ, zero, suc, ◌+◌, ◌-◌, ◌≤◌, ◌<◌}
use native.Mathlib.Omega.{arith}
use lib.ListN.{length, get_or, set, length-set, take, drop, length-drop}
use lib.Seq.{sets, sets-eq, take-suc, get_or-drop, length-take-le, drop-drop}
use Rattle.pgs_base.proofs.Lists.{to_end}
use Rattle.pgs_run_length.specs.Literals.{Literals}
use Rattle.pgs_bitmap_store.specs.Progress.{further, Storing}
use Rattle.pgs_bitmap_store.specs.declared.bitmap.Spot.{Spot}
use Rattle.pgs_bitmap_store.proofs.BitmapStores.{storing-pixel}
use Rattle.pgs_bitmap_store.proofs.bitmap.Spot.store_eight.Goals as goal

-- one value more
sets-more : (l : List ℕ) (i : ℕ) (vs : List ℕ) (v : ℕ) → sets l i (vs ++ (v ∷ [])) ≡ set (sets l i vs) (i + length vs) v
sets-more l i [] v = ap (λ (k : ℕ). set l k v) {x = i} {y = i + 0} (omega arith)
sets-more l i (w ∷ vs) v =
    sets-more (set l i w) (suc i) vs v ∙ ap (λ (k : ℕ). set (sets (set l i w) (suc i) vs) k v) {x = suc i + length vs} {y = i + suc (length vs)} (omega arith)

module _ (l now : List ℕ) (spot : Spot) (there : spot.at + 8 ≤ length l) (room : spot.out + 8 ≤ length now) where
  -- so many of the eight are stored
  abbrev stored : ℕ → List ℕ
  stored n = sets now spot.out (take n (drop spot.at l))

  abbrev After : ℕ → Type 0
  After n = (spot.out + 8 ≤ length (stored n)) × Storing l (stored n) (further spot n n)

  next : (n : ℕ) → n < 8 → stored (suc n) ≡ set (stored n) (spot.out + n) (get_or l (spot.at + n) 0)
  next n h =
      ap (sets now spot.out) (take-suc (drop spot.at l) n 0 (rw length-drop (omega (arith, there, h))))
      ∙ sets-more now spot.out (take n (drop spot.at l)) (get_or (drop spot.at l) n 0)
      ∙ (λ i. set (stored n) (spot.out + length-take-le n (drop spot.at l) (rw length-drop (omega (arith, there, h))) i) (get_or-drop spot.at l n 0 i))

  so-many : Literals l spot.at 8 → Storing l now spot → (n : ℕ) → n ≤ 8 → After n
  so-many nonzero s zero h =
      (room, subst₂ (λ (a o : ℕ). Storing l now (record { at = a; out = o })) {x = spot.at} {y = spot.at + 0} {u = spot.out} {v = spot.out + 0} (omega arith) (omega arith) s)
  so-many nonzero s (suc n) h =
      let before = so-many nonzero s n (omega (arith, h)) in
      rw (next n (omega (arith, h))) (
        simp length-set before.0,
        subst₂ (λ (a o : ℕ). Storing l (set (stored n) (spot.out + n) (get_or l (spot.at + n) 0)) (record { at = a; out = o }))
            {x = spot.at + n + 1} {y = spot.at + suc n} {u = spot.out + n + 1} {v = spot.out + suc n} (omega arith) (omega arith)
            (storing-pixel before.1 (omega (arith, there, h)) (nonzero n (omega (arith, h))) (omega (arith, before.0, h))),
      )

  eight : Literals l spot.at 8 → Storing l now spot
      → Storing l (take spot.out now ++ (take 8 (drop spot.at l) ++ drop 8 (drop spot.out now))) (further spot 8 8)
  eight nonzero s =
      let size : length (take 8 (drop spot.at l)) ≡ 8 = length-take-le 8 (drop spot.at l) (rw length-drop (omega (arith, there))) in
      subst (λ (m : List ℕ). Storing l m (further spot 8 8))
      (sets-eq (take 8 (drop spot.at l)) now spot.out (omega (arith, size, room))
      ∙ ap (λ (k : ℕ). take spot.out now ++ take 8 (drop spot.at l) ++ drop (spot.out + k) now) size
      ∙ append_assoc (take spot.out now) (take 8 (drop spot.at l)) (drop (spot.out + 8) now)
      ∙ ap (λ (m : List ℕ). take spot.out now ++ (take 8 (drop spot.at l) ++ m)) (sym (drop-drop 8 spot.out now)))
      (so-many nonzero s 8 (omega arith)).1

pub returns : goal.returns
returns c =
    let spot = c.args.self in
    let size : spot.out + 8 - spot.out ≡ 8 = omega arith in
    let bytes : c.in-Some.eight.now ≡ take 8 (drop spot.at c.args.«data».now) = c.in-Some.ensures.cases.same ∙ ap (take 8) (to_end spot.at c.args.«data».now) in
    rw (c.further.ensures, c.copy_from_slice.ensures.after, size, bytes)
    (refl, eight c.args.«data».now c.args.pixels.now spot c.requires.there c.requires.room c.requires.literals c.requires.storing)
