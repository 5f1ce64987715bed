-- `Segment::parse` gives what `check_segment` found and the body's numbers.
-- Assumes nothing.
use Prim.Native.Nat.{ℕ, ◌+◌}
use Rattle.pgs_base.proofs.Outcomes.{gave, gave-value, turned_down, gives_as, refuses-as, passed_on}
use Rattle.pgs_base.specs.Outcome.{gives, outcome_of, accepted}
use Rattle.pgs_segment.proofs.SegmentLaws.{lent-numbers, accepted-size}
use Rattle.pgs_segment.specs.Header.{size_of, kind_of}
use Rattle.pgs_views.specs.Kinds.{type_of}
use Rattle.pgs_segment.specs.OneSegment.{segment_verdict, frame_of, segment_of}
use Rattle.pgs_segment.specs.declared.segment.Frame.{Frame}
use mathlib.Core.List.{List}
use mathlib.Core.Path.{◌≡◌, ap, ◌∙◌}
use native.Mathlib.Omega.{arith}
use Rattle.pgs_segment.proofs.segment.Segment.parse.Goals as goal

module _ (l : List ℕ) {f : Frame} (e : gives f ≡ outcome_of (segment_verdict l) (frame_of l)) where
  -- a segment was found: it is accepted, and the frame is the list's
  ok : segment_verdict l ≡ accepted
  ok = gave (segment_verdict l) (frame_of l) e

  frame_is : f ≡ frame_of l
  frame_is = gave-value (segment_verdict l) (frame_of l) e

  size_is : f.header.segment_size ≡ size_of l
  size_is = ap (λ (x : Frame). x.header.segment_size) frame_is

  kind-is : f.header.segment_type ≡ kind_of l
  kind-is = ap (λ (x : Frame). x.header.segment_type) frame_is

pub slice_bounds-numbers-end : goal.slice_bounds-numbers-end
slice_bounds-numbers-end c = let l = c.args.buf.now in omega (arith, accepted-size l (ok l (c.in_ok-frame.ensures)), size_is l (c.in_ok-frame.ensures))

pub returns : goal.returns
returns c =
    let l = c.args.buf.now in
    let e = (c.in_ok-frame.ensures) in
    gives_as (ok l e)
    (λ j. record {
      header = (frame_is l e j).header;
      body = lent-numbers l (c.kind-kind.ensures ∙ ap type_of (kind-is l e)) (size_is l e) (rw c.used-used.ensures at c.numbers-body.ensures) j;
      list = (frame_is l e j).list;
      used = (c.used-used.ensures ∙ ap (λ (k : ℕ). 13 + k) (size_is l e)) j;
    })

pub returns-in_err-frame : goal.returns-in_err-frame
returns-in_err-frame c =
    let l = c.args.buf.now in
    passed_on c.from_residual.result _ c.from_residual.ensures.1 ∙ refuses-as (segment_of l) (turned_down (segment_verdict l) (frame_of l) (c.in_err-frame.ensures))
