use Rattle.std.specs.Prelude.{Result, Ok, Err}
use Rattle.std.specs.Result.{IsOk}
use Rattle.pgs_base.specs.Outcome.{outcome}
use Rattle.pgs_base.specs.declared.refusal.Refusal.{Refusal}
use Rattle.pgs_records.specs.declared.BodyList.{BodyList}
use Rattle.pgs_segment.specs.declared.segment.SegmentBody.{SegmentBody}
use Rattle.pgs_stream.specs.Segments.{segments_left}
use Rattle.pgs_stream.specs.declared.segments.PlacedSegment.{PlacedSegment}
use Rattle.pgs_views.specs.Kinds.{type_of}
use Rattle.pgs_views.specs.declared.segment_type.SegmentType.{SegmentType}
use Rattle.pgs_cards.proofs.FillLaws.{Writing, answer, writing, never-refused, goes_on, line-fits, line-put}
use Rattle.pgs_cards.specs.declared.card.Card.{Card}
use Prim.Native.Nat.{ℕ, ◌+◌, ◌-◌, ◌≤◌}
use lib.ListN.{length, take, drop}
use mathlib.Core.List.{List, ◌∷◌}
use mathlib.Core.Path.{◌≡◌, refl, sym, ap, ◌∙◌}
use Rattle.pgs_cards.proofs.cards.fill_lines.Goals.{In-Some, Then-is_end}
use Rattle.pgs_cards.proofs.cards.fill_lines.Goals as goal

-- the segment here, and those behind it
here : (c : In-Some)
    → Writing c.args.sets.stream.now c.args.out.now c.loop-segment.out c.loop-segment.card
    (c.in-Some.segment ∷ segments_left c.next.new.self) c.loop-segment.k
here c = rw c.in-Some.ensures.steps at c.loop-segment.invariant

pub loop-segment-init : goal.loop-segment-init
loop-segment-init c =
    writing c.args.sets.stream.now c.args.out.now c.args.sets.verdict c.default-card.ensures.1.1.1 (ap segments_left c.into_iter-segment-iterator.ensures.into_iter_gives)

-- the body is no error, since its segment is accepted
read_whole : (s : List ℕ) {start now : List ℕ} {d : Card} {x : PlacedSegment} {xs : List PlacedSegment} {k : ℕ} {t : SegmentType}
    (r : Result (SegmentBody × BodyList) Refusal) → Writing s start now d (x ∷ xs) k → t ≡ type_of x.header.segment_type
    → outcome r ≡ answer t (take (x.end - (x.at + 13)) (drop (x.at + 13) s)) → IsOk r
read_whole s (Ok b) w q e = refl
read_whole s (Err y) w q e = absurd (never-refused s w q e)

pub unwrap-body-requires : goal.unwrap-body-requires
unwrap-body-requires c =
    read_whole c.args.sets.stream.now c.parse.result (here (goal.at.unwrap-body-requires c).In-Some) c.kind-kind.ensures (rw c.body-bytes.ensures at c.parse.ensures)

-- the line has its place
fits : (c : Then-is_end) → c.loop-segment.k + 35 ≤ length c.loop-segment.out
fits c =
    line-fits c.args.sets.stream.now (rw c.in-Some.ensures.steps at c.loop-segment.invariant) c.kind-kind.ensures c.is_end.ensures
    c.if-is_end.true c.requires

pub slice_bounds-put_line-end : goal.slice_bounds-put_line-end
slice_bounds-put_line-end c = fits (goal.at.slice_bounds-put_line-end c).Then-is_end

pub loop-segment-preserved-then-is_end : goal.loop-segment-preserved-then-is_end
loop-segment-preserved-then-is_end c =
    line-put c.args.sets.stream.now (here (goal.at.loop-segment-preserved-then-is_end c).In-Some) c.kind-kind.ensures c.is_end.ensures
    c.if-is_end.true c.requires c.put_line.ensures

pub loop-segment-preserved : goal.loop-segment-preserved
loop-segment-preserved c =
    goes_on c.args.sets.stream.now (here (goal.at.loop-segment-preserved c).In-Some) c.kind-kind.ensures c.is_end.ensures
    (ap outcome (sym c.unwrap-body.ensures) ∙ (rw c.body-bytes.ensures at c.parse.ensures)) c.if-is_end.false c.take.ensures
