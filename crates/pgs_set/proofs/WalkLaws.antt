-- Walking over the segments of an accepted stream, one after another. Assumes nothing.
use mathlib.Core.Path.{◌≡◌, refl, sym, ap, ◌∙◌}
use mathlib.Core.List.{List, [], ◌∷◌}
use Prim.Native.Nat.{ℕ, ◌+◌, ◌≤◌, ◌<◌}
use native.Mathlib.Omega.{arith}
use lib.ListN.{length, take, drop, length-drop}
use lib.Seq.{drop-drop, length-take-le}
use Rattle.pgs_base.specs.Bytes.{num}
use Rattle.pgs_base.specs.Outcome.{accepted, refused, and_then}
use Rattle.pgs_base.proofs.Bytes.{num-take}
use Rattle.pgs_base.proofs.Outcomes.{first-accepts, second_holds, not-both, not-refused}
use Rattle.pgs_segment.specs.Header.{header_fields, header_verdict}
use Rattle.pgs_views.specs.Kinds.{type_of}
use Rattle.pgs_segment.specs.OneSegment.{segment_type, segment_verdict, used_by}
use Rattle.pgs_stream.specs.Stream.{Reading, step_verdict, read_of, stopped_by, stream_verdict}
use Rattle.pgs_segment.proofs.SegmentLaws.{accepted-head, has-header}
use Rattle.pgs_stream.proofs.StreamLaws.{step-within, read-on, read-stops, stopped-at}
use Rattle.pgs_views.specs.declared.segment_type.SegmentType.{SegmentType}
use Rattle.pgs_set.specs.Sets.{group_verdict, kind_verdict, state_after}
use Rattle.pgs_set.specs.Walks.{pieces_at, Standing}
use Rattle.pgs_set.specs.declared.grouping.Grouping.{Grouping}

-- an accepted segment has its head
pub step-header : (l : List ℕ) → step_verdict l ≡ accepted → header_verdict l ≡ accepted
step-header l e = accepted-head l (first-accepts (segment_verdict l) _ e)

pub step-length : (l : List ℕ) → step_verdict l ≡ accepted → 13 ≤ length l
step-length l e = has-header l (step-header l e)

-- a field of the head depends on the segment's bytes alone
pub head-field : (w p : ℕ) (l : List ℕ) → step_verdict l ≡ accepted → p + w ≤ 13 → num w p (take (used_by l) l) ≡ num w p l
head-field w p l e h = num-take w p (used_by l) l (omega arith) (step-within l e)

pub type-of-piece : (l : List ℕ) → step_verdict l ≡ accepted → segment_type (take (used_by l) l) ≡ segment_type l
type-of-piece l e = ap type_of (head-field 1 10 l e (omega arith))

pub piece-head : (l : List ℕ) → step_verdict l ≡ accepted → header_fields (take (used_by l) l) ≡ header_fields l
piece-head l e =
    λ j. record {
      pts = head-field 4 2 l e (omega arith) j;
      dts = head-field 4 6 l e (omega arith) j;
      segment_type = head-field 1 10 l e (omega arith) j;
      segment_size = head-field 2 11 l e (omega arith) j;
    }

pub piece-length : (l : List ℕ) → step_verdict l ≡ accepted → length (take (used_by l) l) ≡ used_by l
piece-length l e = length-take-le (used_by l) l (step-within l e)

module _ (s : List ℕ) (at : ℕ) where
  -- a segment that is refused stops the reading
  pub stops-here : at < length s → {k : ℕ} → step_verdict (drop at s) ≡ refused k → stream_verdict (drop at s) ≡ refused k
  stops-here h e =
      ap stopped_by (ap (λ (x : Reading). x.rest) (read-stops (drop at s) e))
      ∙ (stopped-at (drop at s) (rw length-drop (omega arith)) ∙ e)

  -- a segment stands where an accepted stream is not at its end
  pub step-here : at < length s → stream_verdict (drop at s) ≡ accepted → step_verdict (drop at s) ≡ accepted
  step-here h good = not-refused (step_verdict (drop at s)) (λ k e. not-both good (stops-here h e))

  -- the end has no segment, and refuses nothing
  empty-end : length s ≤ at → drop at s ≡ []
  empty-end h = none (drop at s) (rw length-drop (omega arith))
    where
      none : (l : List ℕ) → length l ≡ 0 → l ≡ []
      none [] e = refl
      none (x ∷ l) e = absurd (omega arith)

  pub pieces_end : length s ≤ at → pieces_at s at ≡ []
  pieces_end h = ap (λ (l : List ℕ). (read_of l).pieces) (empty-end h) ∙ ap (λ (x : Reading). x.pieces) (read-stops [] refl)

  module _ (ok : step_verdict (drop at s) ≡ accepted) where
    pub pieces-here : pieces_at s at ≡ take (used_by (drop at s)) (drop at s) ∷ pieces_at s (at + used_by (drop at s))
    pieces-here =
        ap (λ (x : Reading). x.pieces) (read-on (drop at s) ok)
        ∙ ap (λ (l : List ℕ). take (used_by (drop at s)) (drop at s) ∷ (read_of l).pieces) (drop-drop (used_by (drop at s)) at s)

    pub within-here : at + used_by (drop at s) ≤ length s
    within-here = omega (arith, step-within (drop at s) ok, length-drop at s)

    -- what stops the reading stands after this segment
    pub stream-after : stream_verdict (drop (at + used_by (drop at s)) s) ≡ stream_verdict (drop at s)
    stream-after =
        ap (λ (l : List ℕ). stream_verdict l) (sym (drop-drop (used_by (drop at s)) at s))
        ∙ sym (ap (λ (x : Reading). stopped_by x.rest) (read-on (drop at s) ok))

    pub good-after : stream_verdict (drop at s) ≡ accepted → stream_verdict (drop (at + used_by (drop at s)) s) ≡ accepted
    good-after good = stream-after ∙ good

    -- the verdict of the next segment, and of those after it
    pub group-here : (g : Grouping)
        → group_verdict g (pieces_at s at)
        ≡ and_then (kind_verdict g (segment_type (drop at s))) (group_verdict (state_after g (segment_type (drop at s))) (pieces_at s (at + used_by (drop at s))))
    group-here g =
        ap (group_verdict g) pieces-here
        ∙ ap (λ (t : SegmentType). and_then (kind_verdict g t) (group_verdict (state_after g t) (pieces_at s (at + used_by (drop at s)))))
        (type-of-piece (drop at s) ok)

    -- the next segment is passed
    pub stands_on : {g : Grouping} → Standing g s at → Standing (state_after g (segment_type (drop at s))) s (at + used_by (drop at s))
    stands_on {g} st =
        record {
          inside = within-here;
          good = good-after st.good;
          grouped = second_holds (kind_verdict g (segment_type (drop at s))) _ (sym (group-here g) ∙ st.grouped);
        }

    pub kind-accepted : {g : Grouping} → Standing g s at → kind_verdict g (segment_type (drop at s)) ≡ accepted
    kind-accepted {g} st = first-accepts (kind_verdict g (segment_type (drop at s))) _ (sym (group-here g) ∙ st.grouped)
