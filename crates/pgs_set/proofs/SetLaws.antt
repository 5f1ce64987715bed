-- The loops that count, pass, find and store the sets of a stream. Assumes nothing.
use mathlib.Core.Path.{◌≡◌, refl, sym, ap, ◌∙◌}
use mathlib.Core.Bool.{Bool, true, false}
use mathlib.Core.List.{List, [], ◌∷◌}
use Prim.Native.Nat.{ℕ, ◌+◌, ◌≤◌, ◌<◌}
use native.Mathlib.Omega.{arith}
use borrow.Author.Tests.{leb-true, leb-false}
use lib.Dec.{leb}
use lib.ListN.{length, take, drop, get_or, length-drop}
use Rattle.pgs_base.specs.Outcome.{Verdict, accepted, refused, gives, refuses, outcome_of, and_then, pick}
use Rattle.pgs_base.proofs.Outcomes.{gave, gave-value, turned_down}
use Rattle.pgs_segment.specs.Header.{header_fields}
use Rattle.pgs_views.specs.Kinds.{type_of}
use Rattle.pgs_segment.specs.OneSegment.{segment_type, used_by}
use Rattle.pgs_stream.specs.Stream.{Reading, read_of, step_verdict, stopped_by, stream_verdict}
use Rattle.pgs_stream.proofs.StreamLaws.{read-on, read-stops, step-within, stopped-at}
use Rattle.pgs_segment.specs.declared.header.SegmentHeader.{SegmentHeader}
use Rattle.pgs_views.specs.declared.segment_type.SegmentType.{SegmentType}
use Rattle.pgs_views.specs.declared.segment_type.SegmentType.TheVariants.{Pds, Ods, Pcs, Wds, End, Other}
use Rattle.pgs_set.proofs.Choices.{pick_first, pick_second}
use Rattle.pgs_set.proofs.WalkLaws.{step-here, pieces-here, pieces_end, stands_on, kind-accepted, type-of-piece, piece-length}
use Rattle.pgs_set.specs.Sets.{DisplaySet, no_set, group_verdict, kind_verdict, state_after, is_pcs, is_end, opens}
use Rattle.pgs_set.specs.Sets.{through_end, bytes_in, sets_from, sets_of, set_count, sets_verdict, end_of}
use Rattle.pgs_set.specs.Walks.{pieces_at, Standing, InSet, Ends, end_from, set_at}
use Rattle.pgs_set.specs.declared.grouping.Grouping.{Grouping}
use Rattle.pgs_set.specs.declared.grouping.Grouping.TheVariants.{Outside, Inside}

-- what the head that was read says of the segment
pub kind-read : (l : List ℕ) {h : SegmentHeader} {t : SegmentType} → h ≡ header_fields l → t ≡ type_of h.segment_type → t ≡ segment_type l
kind-read l e q = q ∙ ap (λ (h : SegmentHeader). type_of h.segment_type) e

pub size-read : (l : List ℕ) {h : SegmentHeader} → h ≡ header_fields l → 13 + h.segment_size ≡ used_by l
size-read l e = ap (λ (h : SegmentHeader). 13 + h.segment_size) e

opens-few : (t : SegmentType) → opens t ≤ 1
opens-few Pcs = omega arith
opens-few Wds = omega arith
opens-few Pds = omega arith
opens-few Ods = omega arith
opens-few End = omega arith
opens-few (Other v) = omega arith

-- the sets from a segment on
module _ (s : List ℕ) (at : ℕ) (ok : step_verdict (drop at s) ≡ accepted) where
  pub sets-here : sets_from at (pieces_at s at)
      ≡ pick (is_pcs (segment_type (drop at s)))
      (record { place = at; opening = take (used_by (drop at s)) (drop at s); others = through_end (pieces_at s (at + used_by (drop at s))) }
      ∷ sets_from (at + used_by (drop at s)) (pieces_at s (at + used_by (drop at s))))
      (sets_from (at + used_by (drop at s)) (pieces_at s (at + used_by (drop at s))))
  sets-here =
      ap (sets_from at) (pieces-here s at ok)
      ∙ (λ j. pick (is_pcs (type-of-piece (drop at s) ok j))
      (record { place = at; opening = take (used_by (drop at s)) (drop at s); others = through_end (pieces_at s (at + used_by (drop at s))) }
      ∷ sets_from (at + piece-length (drop at s) ok j) (pieces_at s (at + used_by (drop at s))))
      (sets_from (at + piece-length (drop at s) ok j) (pieces_at s (at + used_by (drop at s)))))

  pub through_here : end_from s at ≡ at + used_by (drop at s) + pick (is_end (segment_type (drop at s))) 0 (bytes_in (through_end (pieces_at s (at + used_by (drop at s)))))
  through_here =
      ap (λ (xs : List (List ℕ)). at + bytes_in (through_end xs)) (pieces-here s at ok)
      ∙ (λ j. at + (piece-length (drop at s) ok j + bytes_in (pick (is_end (type-of-piece (drop at s) ok j)) [] (through_end (pieces_at s (at + used_by (drop at s)))))))
      ∙ go (is_end (segment_type (drop at s))) (through_end (pieces_at s (at + used_by (drop at s))))
    where
      go : (b : Bool) (xs : List (List ℕ)) → at + (used_by (drop at s) + bytes_in (pick b [] xs)) ≡ at + used_by (drop at s) + pick b 0 (bytes_in xs)
      go true xs = omega arith
      go false xs = omega arith

-- where segments stand changes no count of their sets
sets-shift : (a b : ℕ) (xs : List (List ℕ)) → length (sets_from a xs) ≡ length (sets_from b xs)
sets-shift a b [] = refl
sets-shift a b (x ∷ xs) = go (is_pcs (segment_type x)) (sets-shift (a + length x) (b + length x) xs)
  where
    go : (p : Bool) → length (sets_from (a + length x) xs) ≡ length (sets_from (b + length x) xs)
        → length (pick p (record { place = a; opening = x; others = through_end xs } ∷ sets_from (a + length x) xs) (sets_from (a + length x) xs))
        ≡ length (pick p (record { place = b; opening = x; others = through_end xs } ∷ sets_from (b + length x) xs) (sets_from (b + length x) xs))
    go true e = omega arith
    go false e = e

-- the sets that a segment and those behind it open
sets-first : (x : List ℕ) (xs : List (List ℕ)) → length (sets_from 0 (x ∷ xs)) ≡ opens (segment_type x) + length (sets_from 0 xs)
sets-first x xs = go (is_pcs (segment_type x)) (sets-shift (0 + length x) 0 xs)
  where
    go : (p : Bool) → length (sets_from (0 + length x) xs) ≡ length (sets_from 0 xs)
        → length (pick p (record { place = 0; opening = x; others = through_end xs } ∷ sets_from (0 + length x) xs) (sets_from (0 + length x) xs))
        ≡ pick p 1 0 + length (sets_from 0 xs)
    go true e = omega arith
    go false e = omega arith

-- the segments before what is left are read and grouped: n sets were opened, and this state is reached
pub record Counting (s : List ℕ) (g : Grouping) (l : List ℕ) (n : ℕ) : Type 0 where
  pub few : n + length l ≤ length s
  pub verdict : and_then (stream_verdict l) (group_verdict g (read_of l).pieces) ≡ sets_verdict s
  pub count : n + length (sets_from 0 (read_of l).pieces) ≡ set_count s

module _ (s : List ℕ) where
  pub counting : Counting s Outside s 0
  unfolding sets_of
  counting = record { few = omega arith; verdict = refl; count = omega arith }

  module _ {g : Grouping} {l : List ℕ} {n : ℕ} (c : Counting s g l n) where
    -- the next segment cannot be read
    pub counted-short : 0 < length l → {k : ℕ} → step_verdict l ≡ refused k → sets_verdict s ≡ refused k
    counted-short m e =
        sym c.verdict
        ∙ ap (λ (v : Verdict). and_then v (group_verdict g (read_of l).pieces))
        (ap (λ (x : Reading). stopped_by x.rest) (read-stops l e) ∙ (stopped-at l m ∙ e))

    -- it is read: its head and its kind
    module _ (ok : step_verdict l ≡ accepted) {h : SegmentHeader} {t : SegmentType} (e : h ≡ header_fields l) (q : t ≡ type_of h.segment_type) where
      -- the verdict of what is left, by that of its kind
      left : {v : Verdict} → kind_verdict g t ≡ v
          → and_then (stream_verdict (drop (13 + h.segment_size) l)) (and_then v (group_verdict (state_after g t) (read_of (drop (13 + h.segment_size) l)).pieces))
          ≡ sets_verdict s
      left {v} taken =
          rw (size-read l e)
          ((λ j. and_then (sym (ap (λ (x : Reading). stopped_by x.rest) (read-on l ok)) j)
          (and_then (sym taken j) (group_verdict (state_after g t) (read_of (drop (used_by l) l)).pieces)))
          ∙ ap (and_then (stream_verdict l)) (by-kind (kind-read l e q) ∙ sym grouped-here)
          ∙ c.verdict)
        where
          grouped-here : group_verdict g (read_of l).pieces
              ≡ and_then (kind_verdict g (segment_type l)) (group_verdict (state_after g (segment_type l)) (read_of (drop (used_by l) l)).pieces)
          grouped-here =
              ap (λ (x : Reading). group_verdict g x.pieces) (read-on l ok)
              ∙ ap (λ (x : SegmentType). and_then (kind_verdict g x) (group_verdict (state_after g x) (read_of (drop (used_by l) l)).pieces)) (type-of-piece l ok)

          by-kind : {x y : SegmentType} → x ≡ y
              → and_then (kind_verdict g x) (group_verdict (state_after g x) (read_of (drop (used_by l) l)).pieces)
              ≡ and_then (kind_verdict g y) (group_verdict (state_after g y) (read_of (drop (used_by l) l)).pieces)
          by-kind p = ap (λ (x : SegmentType). and_then (kind_verdict g x) (group_verdict (state_after g x) (read_of (drop (used_by l) l)).pieces)) p

      count-here : length (sets_from 0 (read_of l).pieces) ≡ opens t + length (sets_from 0 (read_of (drop (used_by l) l)).pieces)
      count-here =
          ap (λ (x : Reading). length (sets_from 0 x.pieces)) (read-on l ok)
          ∙ sets-first (take (used_by l) l) (read_of (drop (used_by l) l)).pieces
          ∙ ap (λ (x : SegmentType). opens x + length (sets_from 0 (read_of (drop (used_by l) l)).pieces)) (type-of-piece l ok ∙ sym (kind-read l e q))

      pub counts-on : {g' : Grouping} {k : ℕ} → gives g' ≡ outcome_of (kind_verdict g t) (state_after g t) → k ≡ opens t
          → Counting s g' (drop (13 + h.segment_size) l) (n + k)
      counts-on {g'} {k} r o =
          let next : g' ≡ state_after g t = gave-value (kind_verdict g t) (state_after g t) r in
          rw next
          (record {
            few = rw (size-read l e) (omega (arith, c.few, opens-few t, o, step-within l ok, length-drop (used_by l) l));
            verdict = left (gave (kind_verdict g t) (state_after g t) r);
            count = rw (size-read l e) (omega (arith, count-here, c.count, o));
          })

      pub counted-refusal : {k : ℕ} → refuses k ≡ outcome_of (kind_verdict g t) (state_after g t)
          → and_then (stream_verdict (drop (13 + h.segment_size) l)) (refused k) ≡ sets_verdict s
      counted-refusal r = left (turned_down (kind_verdict g t) (state_after g t) r)

    pub counted-sets : length l ≡ 0 → outcome_of (group_verdict g []) n ≡ outcome_of (sets_verdict s) (set_count s)
    counted-sets h =
        let none : read_of l ≡ record { pieces = []; rest = [] } = ap read_of (empty l h) ∙ read-stops [] refl in
        let all : n ≡ set_count s = omega (arith, c.count, ap (λ (x : Reading). length (sets_from 0 x.pieces)) none) in
        λ j. outcome_of ((sym (ap (λ (x : Reading). and_then (stopped_by x.rest) (group_verdict g x.pieces)) none) ∙ c.verdict) j) (all j)
      where
        empty : (xs : List ℕ) → length xs ≡ 0 → xs ≡ []
        empty [] e = refl
        empty (x ∷ xs) e = absurd (omega arith)

-- a set that is open goes on after a segment that is no END
pub goes_on : (w : Bool) (t : SegmentType) → is_end t ≡ false → (w' : Bool) × (state_after (Inside w) t ≡ Inside w')
goes_on w Pcs e = (false, refl)
goes_on w Wds e = (true, refl)
goes_on w Pds e = (w, refl)
goes_on w Ods e = (w, refl)
goes_on w End e = absurd (let z : ◌≡◌ {A = ℕ} 0 1 = cc in omega arith)
goes_on w (Other v) e = (w, refl)

pub closes : (g : Grouping) (t : SegmentType) → is_end t ≡ true → state_after g t ≡ Outside
closes g Pcs e = cc
closes g Wds e = cc
closes g Pds e = cc
closes g Ods e = cc
closes g End e = refl
closes g (Other v) e = cc

-- no PCS stands in an open set, and nothing else stands outside
pub no-pcs : (w : Bool) (t : SegmentType) → kind_verdict (Inside w) t ≡ accepted → is_pcs t ≡ false
no-pcs w Pcs e = cc
no-pcs w Wds e = refl
no-pcs w Pds e = refl
no-pcs w Ods e = refl
no-pcs w End e = refl
no-pcs w (Other v) e = refl

pub only-pcs : (t : SegmentType) → kind_verdict Outside t ≡ accepted → t ≡ Pcs
only-pcs Pcs e = refl
only-pcs Wds e = cc
only-pcs Pds e = cc
only-pcs Ods e = cc
only-pcs End e = cc
only-pcs (Other v) e = cc

-- the segments from `from` up to `at` belong to the set that is open at `from`
pub record Passing (s : List ℕ) (from at : ℕ) : Type 0 where
  pub in_set : InSet s at
  pub place : end_from s at ≡ end_from s from
  pub sets : sets_from at (pieces_at s at) ≡ sets_from from (pieces_at s from)
  pub on : from ≤ at

module _ (s : List ℕ) where
  -- a set that is open has a segment to come
  pub inside-more : {at : ℕ} → InSet s at → at < length s
  inside-more {at} i = go (leb (length s) at) refl
    where
      go : (b : Bool) → leb (length s) at ≡ b → at < length s
      go false e = leb-false (length s) at e
      go true e =
          absurd
          (let q : refused 15 ≡ accepted = ap (group_verdict (Inside i.windows)) (sym (pieces_end s at (leb-true (length s) at e))) ∙ i.standing.grouped in
          let z : ◌≡◌ {A = ℕ} 0 1 = cc in omega arith)

  pub inside-here : {at : ℕ} → InSet s at → step_verdict (drop at s) ≡ accepted
  inside-here {at} i = step-here s at (inside-more i) i.standing.good

  -- it goes on behind a segment that is no END
  pub inside_on : {at : ℕ} → InSet s at → is_end (segment_type (drop at s)) ≡ false → InSet s (at + used_by (drop at s))
  inside_on {at} i e =
      let g = goes_on i.windows (segment_type (drop at s)) e in
      record { windows = g.0; standing = rw g.1 at (stands_on s at (inside-here i) i.standing) }

  pub passing : {from : ℕ} → InSet s from → Passing s from from
  passing i = record { in_set = i; place = refl; sets = refl; on = omega arith }

  module _ {from at : ℕ} (p : Passing s from at) where
    ok : step_verdict (drop at s) ≡ accepted
    ok = inside-here p.in_set

    same-sets : sets_from (at + used_by (drop at s)) (pieces_at s (at + used_by (drop at s))) ≡ sets_from from (pieces_at s from)
    same-sets =
        sym (sets-here s at ok ∙ pick_second _ _ (no-pcs p.in_set.windows (segment_type (drop at s)) (kind-accepted s at ok p.in_set.standing)))
        ∙ p.sets

    pub passes_on : is_end (segment_type (drop at s)) ≡ false → Passing s from (at + used_by (drop at s))
    passes_on e =
        record {
          in_set = inside_on p.in_set e;
          place = sym (through_here s at ok ∙ ap (λ (b : Bool). at + used_by (drop at s) + pick b 0 (bytes_in (through_end (pieces_at s (at + used_by (drop at s)))))) e) ∙ p.place;
          sets = same-sets;
          on = omega (arith, p.on);
        }

    pub passed : is_end (segment_type (drop at s)) ≡ true → Ends s from (at + used_by (drop at s))
    passed e =
        record {
          place = omega (arith, through_here s at ok ∙ ap (λ (b : Bool). at + used_by (drop at s) + pick b 0 (bytes_in (through_end (pieces_at s (at + used_by (drop at s)))))) e, p.place);
          sets = same-sets;
          after = rw (closes (Inside p.in_set.windows) (segment_type (drop at s)) e) at (stands_on s at ok p.in_set.standing);
          on = omega (arith, p.on);
        }

  -- a set to come begins here with its PCS
  module _ {at : ℕ} (st : Standing Outside s at) where
    pub outside-here : at < length s → step_verdict (drop at s) ≡ accepted
    outside-here h = step-here s at h st.good

    module _ (h : at < length s) where
      its-pcs : segment_type (drop at s) ≡ Pcs
      its-pcs = only-pcs (segment_type (drop at s)) (kind-accepted s at (outside-here h) st)

      pub opens-here : InSet s (at + used_by (drop at s))
      opens-here =
          record {
            windows = false;
            standing = rw (ap (state_after Outside) its-pcs) at (stands_on s at (outside-here h) st);
          }

      here : DisplaySet
      here = record { place = at; opening = take (used_by (drop at s)) (drop at s); others = through_end (pieces_at s (at + used_by (drop at s))) }

      sets-split : sets_from at (pieces_at s at) ≡ here ∷ sets_from (at + used_by (drop at s)) (pieces_at s (at + used_by (drop at s)))
      unfolding here
      sets-split = sets-here s at (outside-here h) ∙ pick_first _ _ (ap is_pcs its-pcs)

      -- the set itself
      pub set_here : set_at s at
          ≡ record { place = at; opening = take (used_by (drop at s)) (drop at s); others = through_end (pieces_at s (at + used_by (drop at s))) }
      unfolding here
      set_here = ap (λ (ds : List DisplaySet). get_or ds 0 no_set) sets-split

      module _ {r : ℕ} (e : Ends s (at + used_by (drop at s)) r) where
        -- it is followed by the sets after its END
        pub sets-after : sets_from at (pieces_at s at) ≡ set_at s at ∷ sets_from r (pieces_at s r)
        unfolding here
        sets-after = sets-split ∙ (λ j. sym set_here j ∷ sym e.sets j)

        pub set-ends : r ≡ end_of (set_at s at)
        set-ends =
            e.place
            ∙ ap (λ (n : ℕ). at + n + bytes_in (through_end (pieces_at s (at + used_by (drop at s))))) (sym (piece-length (drop at s) (outside-here h)))
            ∙ ap end_of (sym set_here)
