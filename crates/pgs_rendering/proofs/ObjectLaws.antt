-- What the records of a set's objects say of the objects, for the calls that go by the records. Assumes nothing.
use mathlib.Core.Path.{◌≡◌, refl, sym, ap, subst, ◌∙◌}
use mathlib.Core.Bool.{Bool, true, false}
use mathlib.Core.List.{List, [], ◌∷◌, ◌++◌, map, append-nil, append_assoc}
use Prim.Native.Nat.{ℕ, zero, suc, ◌+◌, ◌*◌, ◌≤◌, ◌<◌}
use native.Mathlib.Omega.{arith}
use borrow.Author.Tests.{ltb-true}
use lib.Dec.{ltb}
use Rattle.std.specs.Prelude.{All}
use lib.ListN.{length, length-append}
use Rattle.pgs_base.specs.Outcome.{accepted, pick}
use Rattle.pgs_base.proofs.Outcomes.{first-accepts, second_holds, holds}
use Rattle.pgs_bitmap_check.specs.Bitmap.{bitmap_of}
use Rattle.pgs_reassembly.specs.Objects.{Fragment, Chain, ChainState, unseen, continuing, complete, id_of, opens_chain}
use Rattle.pgs_reassembly.specs.Objects.{with_id, chains_of, width_of, height_of, data_of, data_place, state_of}
use Rattle.pgs_reassembly.specs.Objects.{first_verdict, next_verdict, fragment_verdict, verdict_after, chains_verdict}
use Rattle.pgs_reassembly.specs.Objects.{fragments_verdict}
use Rattle.pgs_reassembly.specs.Reassembly.{copied, copied_data, joined_data, object_record, object_records_from, record_data}
use Rattle.pgs_rendering.specs.Images.{area_of, bitmaps_of}
use Rattle.pgs_rendering.specs.Records.{records_area, records_bitmaps, Held}

pub area_of_lem : (at : ℕ) (cs : List Chain) → records_area (object_records_from at cs) ≡ area_of cs
area_of_lem at [] = refl
area_of_lem at (c ∷ cs) = ap (λ (n : ℕ). width_of c * height_of c + n) (area_of_lem (at + length (copied_data c)) cs)

pub bitmaps-of : (s scratch : List ℕ) (at : ℕ) (cs : List Chain) → map (record_data s scratch) (object_records_from at cs) ≡ map data_of cs
    → records_bitmaps s scratch (object_records_from at cs) ≡ bitmaps_of cs
bitmaps-of s scratch at [] e = refl
bitmaps-of s scratch at (c ∷ cs) e =
    let here : record_data s scratch (object_record at c) ≡ data_of c = cc in
    let others : map (record_data s scratch) (object_records_from (at + length (copied_data c)) cs) ≡ map data_of cs = cc in
    λ j. bitmap_of (here j) ++ bitmaps-of s scratch (at + length (copied_data c)) cs others j

-- data that is copied stands before the end of the joined data
one-held : (at end : ℕ) (c : Chain) → at + length (copied_data c) ≤ end → Held end (object_record at c)
one-held at end c h = go (copied c) refl
  where
    go : (b : Bool) → copied c ≡ b → b ≡ true → pick b at (data_place c.first) + length (data_of c) ≤ end
    go true e t = omega (arith, ap (λ (t : Bool). length (pick t (data_of c) [])) e, h)
    go false e t = cc

pub records-held : (at end : ℕ) (cs : List Chain) → at + length (joined_data cs) ≤ end → All (Held end) (object_records_from at cs)
records-held at end [] h i d m = absurd (omega arith)
records-held at end (c ∷ cs) h zero d m = one-held at end c (omega (arith, length-append (copied_data c) (joined_data cs)))
records-held at end (c ∷ cs) h (suc i) d m =
    records-held (at + length (copied_data c)) end cs (omega (arith, length-append (copied_data c) (joined_data cs))) i d (omega arith)

-- one more fragment adds at most one object
chains-snoc : (fs : List Fragment) (f : Fragment) → length (chains_of (fs ++ (f ∷ []))) ≡ length (chains_of fs) + pick {A = ℕ} (opens_chain f) 1 0
chains-snoc [] f = go (opens_chain f) (record { first = f; further = with_id (id_of f) [] })
  where
    go : (b : Bool) (c : Chain) → length (pick b (c ∷ []) []) ≡ 0 + pick {A = ℕ} b 1 0
    go true c = refl
    go false c = refl
chains-snoc (g ∷ fs) f =
    go (opens_chain g) (record { first = g; further = with_id (id_of g) (fs ++ (f ∷ [])) }) (record { first = g; further = with_id (id_of g) fs }) (chains-snoc fs f)
  where
    go : (b : Bool) (c d : Chain) → length (chains_of (fs ++ (f ∷ []))) ≡ length (chains_of fs) + pick {A = ℕ} (opens_chain f) 1 0
        → length (pick b (c ∷ chains_of (fs ++ (f ∷ []))) (chains_of (fs ++ (f ∷ []))))
        ≡ length (pick b (d ∷ chains_of fs) (chains_of fs)) + pick {A = ℕ} (opens_chain f) 1 0
    go true c d ih = omega (arith, ih)
    go false c d ih = ih

few-after : (limit : ℕ) (fs earlier : List Fragment) → verdict_after limit earlier fs ≡ accepted → length (chains_of earlier) ≤ limit
    → length (chains_of (earlier ++ fs)) ≤ limit
few-after limit [] earlier e h = rw append-nil h
few-after limit (f ∷ fs) earlier e h =
    subst (λ (l : List Fragment). length (chains_of l) ≤ limit) (append_assoc earlier (f ∷ []) fs)
    (few-after limit fs (earlier ++ (f ∷ [])) (second_holds (fragment_verdict limit (chains_of earlier) f) _ e)
    (more (opens_chain f) refl (state_of (id_of f) (chains_of earlier))
    (first-accepts (fragment_verdict limit (chains_of earlier) f) _ e)))
  where
    more : (b : Bool) → opens_chain f ≡ b → (st : ChainState)
        → pick (opens_chain f) (first_verdict limit (length (chains_of earlier)) st) (next_verdict st) ≡ accepted
        → length (chains_of (earlier ++ (f ∷ []))) ≤ limit
    more false q st a = omega (arith, chains-snoc earlier f, ap (λ (t : Bool). pick {A = ℕ} t 1 0) q, h)
    more true q unseen a =
        let room : length (chains_of earlier) < limit = ltb-true (length (chains_of earlier)) limit
        (holds 23 (ltb (length (chains_of earlier)) limit)
        (sym
        (ap (λ (t : Bool). pick t (first_verdict limit (length (chains_of earlier)) unseen) (next_verdict unseen)) q)
        ∙ a)) in
        omega (arith, chains-snoc earlier f, ap (λ (t : Bool). pick {A = ℕ} t 1 0) q)
    more true q continuing a = let z : ◌≡◌ {A = ℕ} 0 1 = cc in absurd (omega arith)
    more true q complete a = let z : ◌≡◌ {A = ℕ} 0 1 = cc in absurd (omega arith)

-- a set whose objects are not refused has no more of them than the limit
pub few-objects : (limit : ℕ) (fs : List Fragment) → fragments_verdict limit fs ≡ accepted → length (chains_of fs) ≤ limit
few-objects limit fs e = few-after limit fs [] (first-accepts (verdict_after limit [] fs) (chains_verdict (chains_of fs)) e) (omega arith)
