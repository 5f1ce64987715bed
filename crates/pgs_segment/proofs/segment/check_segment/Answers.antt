-- `check_segment` tests the head, the size and the body, in this order.
-- Assumes nothing.
use Prim.Native.Nat.{ℕ}
use Rattle.pgs_base.proofs.Outcomes.{gave, gave-value, turned_down, gives_as, refuses-as, passed_on}
use Rattle.pgs_base.specs.Outcome.{gives, outcome_of, accepted}
use Rattle.pgs_segment.proofs.SegmentLaws.{body-decides, lent-body}
use Rattle.pgs_segment.specs.Fields.{body_verdict, body_list}
use Rattle.pgs_segment.specs.Header.{header_verdict, header_fields, size_of, kind_of}
use Rattle.pgs_views.specs.Kinds.{type_of}
use Rattle.pgs_segment.specs.OneSegment.{segment_type, body_at, frame_of}
use Rattle.pgs_segment.specs.declared.header.SegmentHeader.{SegmentHeader}
use mathlib.Core.List.{List}
use mathlib.Core.Path.{◌≡◌, ap, ◌∙◌}
use native.Mathlib.Omega.{arith}
use Rattle.pgs_segment.proofs.segment.check_segment.Goals as goal

module _ (l : List ℕ) {h : SegmentHeader} (e : gives h ≡ outcome_of (header_verdict l) (header_fields l)) where
  -- a head was given: it is accepted, and its kind and size are the list's
  ok : header_verdict l ≡ accepted
  ok = gave (header_verdict l) (header_fields l) e

  size_is : h.segment_size ≡ size_of l
  size_is = ap (λ (x : SegmentHeader). x.segment_size) (gave-value (header_verdict l) (header_fields l) e)

  kind-is : h.segment_type ≡ kind_of l
  kind-is = ap (λ (x : SegmentHeader). x.segment_type) (gave-value (header_verdict l) (header_fields l) e)

pub returns-in_err-list : goal.returns-in_err-list
returns-in_err-list c =
    let l = c.args.buf.now in
    let e = c.in_ok-header.ensures in
    let got = rw c.in_ok-body.ensures.ok_part at c.get.ensures.lookup.0 in
    passed_on c.from_residual-in_err-list.result _ c.from_residual-in_err-list.ensures.1
    ∙ refuses-as (frame_of l)
    (body-decides l (ok l e) (omega (arith, size_is l e, c.used.ensures, got))
    ∙ turned_down (body_verdict (segment_type l) (body_at l)) (body_list (segment_type l) (body_at l))
    (lent-body l (c.kind.ensures ∙ ap type_of (kind-is l e)) (size_is l e) (rw (got.2, c.used.ensures) at c.in_err-list.ensures)))

pub returns : goal.returns
returns c =
    let l = c.args.buf.now in
    let e = c.in_ok-header.ensures in
    let got = rw c.in_ok-body.ensures.ok_part at c.get.ensures.lookup.0 in
    let q = lent-body l (c.kind.ensures ∙ ap type_of (kind-is l e)) (size_is l e) (rw (got.2, c.used.ensures) at c.in_ok-list.ensures) in
    gives_as
    (body-decides l (ok l e) (omega (arith, size_is l e, c.used.ensures, got))
    ∙ gave (body_verdict (segment_type l) (body_at l)) (body_list (segment_type l) (body_at l)) q)
    (λ j. record {
      header = gave-value (header_verdict l) (header_fields l) e j;
      list = gave-value (body_verdict (segment_type l) (body_at l)) (body_list (segment_type l) (body_at l)) q j;
    })
