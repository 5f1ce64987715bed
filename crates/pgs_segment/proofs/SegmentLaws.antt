-- How testing and reading one segment end, over its bytes. Assumes nothing.
use mathlib.Core.Path.{◌≡◌, ap, ◌∙◌}
use mathlib.Core.Bool.{true}
use mathlib.Core.List.{List}
use Prim.Native.Nat.{ℕ, ◌+◌, ◌-◌, ◌≤◌}
use native.Mathlib.Omega.{arith}
use borrow.Author.Tests.{leb-true, le-leb}
use lib.Dec.{leb}
use lib.ListN.{length, take, drop}
use Rattle.pgs_base.specs.Outcome.{Outcome, accepted, outcome_of, unless}
use Rattle.pgs_base.proofs.Outcomes.{first_holds, second_holds, first-accepts, holds}
use Rattle.pgs_segment.specs.Fields.{body_verdict, body_list, body_of, numbers_of}
use Rattle.pgs_segment.specs.Header.{size_of, marked, header_verdict}
use Rattle.pgs_segment.specs.OneSegment.{segment_type, used_by, body_at, segment_verdict}
use Rattle.pgs_views.specs.declared.segment_type.SegmentType.{SegmentType}
use Rattle.pgs_records.specs.declared.BodyList.{BodyList}
use Rattle.pgs_segment.specs.declared.segment.SegmentBody.{SegmentBody}

module _ (l : List ℕ) where
  pub has-header : header_verdict l ≡ accepted → 13 ≤ length l
  has-header e = leb-true 13 (length l) (first_holds 1 (leb 13 (length l)) (unless 2 (marked l)) e)

  pub accepted-mark : header_verdict l ≡ accepted → marked l ≡ true
  accepted-mark e = holds 2 (marked l) (second_holds (unless 1 (leb 13 (length l))) _ e)

  -- after the head the body decides
  pub body-decides : header_verdict l ≡ accepted → used_by l ≤ length l → segment_verdict l ≡ body_verdict (segment_type l) (body_at l)
  body-decides e h = simp (e, le-leb (used_by l) (length l) h)

  -- the body as the code lends it is the body
  lent_is : (n : ℕ) → n ≡ size_of l → take (13 + n - 13) (drop 13 l) ≡ body_at l
  lent_is n e = let q : 13 + n - 13 ≡ size_of l = omega arith in ap (λ (k : ℕ). take k (drop 13 l)) q

  module _ {t : SegmentType} {n : ℕ} (et : t ≡ segment_type l) (en : n ≡ size_of l) where
    pub lent-body : {o : Outcome BodyList}
        → o ≡ outcome_of (body_verdict t (take (13 + n - 13) (drop 13 l))) (body_list t (take (13 + n - 13) (drop 13 l)))
        → o ≡ outcome_of (body_verdict (segment_type l) (body_at l)) (body_list (segment_type l) (body_at l))
    lent-body e = e ∙ (λ k. outcome_of (body_verdict (et k) (lent_is n en k)) (body_list (et k) (lent_is n en k)))

    pub lent-numbers : {s : SegmentBody} → s ≡ numbers_of (body_of t (take (13 + n - 13) (drop 13 l))) → s ≡ numbers_of (body_of (segment_type l) (body_at l))
    lent-numbers e = e ∙ (λ k. numbers_of (body_of (et k) (lent_is n en k)))

  -- an accepted segment has its head, its body, and a body that is accepted
  pub accepted-head : segment_verdict l ≡ accepted → header_verdict l ≡ accepted
  accepted-head e = first-accepts (header_verdict l) _ e

  pub accepted-size : segment_verdict l ≡ accepted → used_by l ≤ length l
  accepted-size e = leb-true (used_by l) (length l) (first_holds 3 (leb (used_by l) (length l)) _ (second_holds (header_verdict l) _ e))

  pub accepted-body : segment_verdict l ≡ accepted → body_verdict (segment_type l) (body_at l) ≡ accepted
  accepted-body e = second_holds (unless 3 (leb (used_by l) (length l))) _ (second_holds (header_verdict l) _ e)
