-- The walk over the segments writes the lines of the sets. Assumes nothing.
use mathlib.Core.Path.{◌≡◌, refl, sym, ap, ◌∙◌}
use mathlib.Core.Bool.{Bool, true, false}
use mathlib.Core.List.{List, [], ◌∷◌, ◌++◌, map}
use Prim.Native.Nat.{ℕ, ◌+◌, ◌≤◌}
use native.Mathlib.Nat.{add_assoc}
use native.Mathlib.Omega.{arith}
use lib.ListN.{length}
use Rattle.pgs_views.specs.Fragments.{fragment_of, is_first}
use Rattle.pgs_base.specs.Outcome.{accepted, and_then, pick}
use Rattle.pgs_segment.specs.Fields.{body_of, numbers_of}
use Rattle.pgs_segment.specs.Header.{pts_of}
use Rattle.pgs_ods.specs.OdsBody.{ods_of}
use Rattle.pgs_segment.specs.OneSegment.{segment_type, body_at}
use Rattle.pgs_pcs.specs.PcsBody.{pcs_of}
use Rattle.pgs_reassembly.specs.Objects.{Fragment, Chain, is_ods, fragment_at, fragments_from, opens_chain, chains_of}
use Rattle.pgs_set.specs.Sets.{DisplaySet, group_verdict, kind_verdict, state_after, is_pcs, is_end, through_end, sets_from}
use Rattle.pgs_views.specs.declared.segment_type.SegmentType.{SegmentType}
use Rattle.pgs_views.specs.declared.segment_type.SegmentType.TheVariants.{Pds, Ods, Pcs, Wds, End, Other}
use Rattle.pgs_set.specs.declared.grouping.Grouping.{Grouping}
use Rattle.pgs_set.specs.declared.grouping.Grouping.TheVariants.{Outside, Inside}
use Rattle.pgs_ods.specs.declared.ods.Ods as declared-ods
use Rattle.pgs_pcs.specs.declared.pcs.Pcs as declared-pcs
use Rattle.pgs_cards.specs.Cards.{card_of, card_with, line_of, lines_of}
use Rattle.pgs_cards.specs.Walks.{adding, card_after, opened}
use Rattle.pgs_cards.specs.declared.card.Card.{Card}

-- the lines that are still to come where the walk holds the card c
abbrev pub open_lines : Card → ℕ → List (List ℕ) → List ℕ
open_lines c at [] = []
open_lines c at (x ∷ xs) =
    pick (is_end (segment_type x)) (line_of c ++ open_lines c (at + length x) xs)
    (open_lines (card_after c at (pts_of x) (numbers_of (body_of (segment_type x) (body_at x)))) (at + length x) xs)

-- how many objects the fragments from a place on open, up to the END
abbrev pub objects_from : ℕ → List (List ℕ) → ℕ
objects_from at xs = length (chains_of (fragments_from at (through_end xs)))

-- the lines as the sets have them: first that of the open set, whose card is c so far
abbrev pub lines_left : Grouping → Card → ℕ → List (List ℕ) → List ℕ
lines_left Outside c at xs = lines_of (map card_of (sets_from at xs))
lines_left (Inside w) c at xs = line_of (adding c (objects_from at xs)) ++ lines_of (map card_of (sets_from at xs))

-- each first fragment opens a chain
chain-count : (f : Fragment) (fs : List Fragment) → length (chains_of (f ∷ fs)) ≡ pick (opens_chain f) 1 0 + length (chains_of fs)
chain-count f fs = go (opens_chain f) _ (chains_of fs)
  where
    go : (b : Bool) (d : Chain) (ds : List Chain) → length (pick b (d ∷ ds) ds) ≡ pick b 1 0 + length ds
    go true d ds = omega arith
    go false d ds = omega arith

-- a fragment opens one object at most
pub opened-few : (o : declared-ods.Ods) → opened o ≤ 1
opened-few o = go (is_first (fragment_of o.last_in_sequence_flag))
  where
    go : (b : Bool) → pick b 1 0 ≤ 1
    go true = omega arith
    go false = omega arith

adding-first : (at pts : ℕ) (p : declared-pcs.Pcs) (n : ℕ) → adding (card_with at pts p 0) n ≡ card_with at pts p n
adding-first at pts p n = let same : 0 + n ≡ n = omega arith in λ j. card_with at pts p (same j)

adding-none : (c : Card) → adding c 0 ≡ c
adding-none c = let same : c.objects + 0 ≡ c.objects = omega arith in ap (card_with c.place c.pts c.pcs) same

adding-twice : (c : Card) (a b : ℕ) → adding (adding c a) b ≡ adding c (a + b)
adding-twice c a b = ap (card_with c.place c.pts c.pcs) (add_assoc c.objects a b)

-- one more segment, of kind t, before segments of which it is known already
module _ (c : Card) (at : ℕ) (x : List ℕ) (xs : List (List ℕ)) where
  abbrev Rest : Type 0
  Rest = (g : Grouping) (d : Card) → group_verdict g xs ≡ accepted → open_lines d (at + length x) xs ≡ lines_left g d (at + length x) xs

  abbrev sets : SegmentType → List DisplaySet
  sets t =
      pick (is_pcs t) (record { place = at; opening = x; others = through_end xs } ∷ sets_from (at + length x) xs) (sets_from (at + length x) xs)

  abbrev fragments : SegmentType → List Fragment
  fragments t =
      pick (is_ods t) (fragment_at at x ∷ fragments_from (at + length x) (pick (is_end t) [] (through_end xs)))
      (fragments_from (at + length x) (pick (is_end t) [] (through_end xs)))

  abbrev left : Grouping → SegmentType → List ℕ
  left Outside t = lines_of (map card_of (sets t))
  left (Inside w) t = line_of (adding c (length (chains_of (fragments t)))) ++ lines_of (map card_of (sets t))

  one_more : (g : Grouping) (t : SegmentType) → and_then (kind_verdict g t) (group_verdict (state_after g t) xs) ≡ accepted → Rest
      → pick (is_end t) (line_of c ++ open_lines c (at + length x) xs)
      (open_lines (card_after c at (pts_of x) (numbers_of (body_of t (body_at x)))) (at + length x) xs)
      ≡ left g t
  one_more Outside Pcs e rest =
      rest (Inside false) _ e
      ∙ ap (λ (d : Card). line_of d ++ lines_of (map card_of (sets_from (at + length x) xs))) (adding-first at (pts_of x) (pcs_of (body_at x)) (objects_from (at + length x) xs))
  one_more Outside Wds e rest = cc
  one_more Outside Pds e rest = cc
  one_more Outside Ods e rest = cc
  one_more Outside End e rest = cc
  one_more Outside (Other v) e rest = cc
  one_more (Inside w) Pcs e rest = cc
  one_more (Inside true) Wds e rest = cc
  one_more (Inside false) Wds e rest = rest (Inside true) _ e
  one_more (Inside w) Pds e rest = rest (Inside w) _ e
  one_more (Inside w) Ods e rest =
      rest (Inside w) _ e
      ∙ ap (λ (d : Card). line_of d ++ lines_of (map card_of (sets_from (at + length x) xs)))
      (adding-twice c (opened (ods_of (body_at x))) (objects_from (at + length x) xs)
      ∙ ap (adding c) (sym (chain-count (fragment_at at x) (fragments_from (at + length x) (through_end xs)))))
  one_more (Inside w) End e rest = λ j. line_of (sym (adding-none c) j) ++ rest Outside c e j
  one_more (Inside w) (Other v) e rest = rest (Inside w) _ e

pub lines_left_lem : (g : Grouping) (c : Card) (at : ℕ) (xs : List (List ℕ)) → group_verdict g xs ≡ accepted → open_lines c at xs ≡ lines_left g c at xs
lines_left_lem Outside c at [] e = refl
lines_left_lem (Inside w) c at [] e = absurd (let z : ◌≡◌ {A = ℕ} 0 1 = cc in omega arith)
lines_left_lem Outside c at (x ∷ xs) e =
    one_more c at x xs Outside (segment_type x) e (λ (g : Grouping) (d : Card) (q : group_verdict g xs ≡ accepted). lines_left_lem g d (at + length x) xs q)
lines_left_lem (Inside w) c at (x ∷ xs) e =
    one_more c at x xs (Inside w) (segment_type x) e (λ (g : Grouping) (d : Card) (q : group_verdict g xs ≡ accepted). lines_left_lem g d (at + length x) xs q)
