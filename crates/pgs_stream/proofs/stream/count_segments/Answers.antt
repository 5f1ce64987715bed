-- `count_segments` reads on until the end or a refusal: the loop keeps `Counting`.
-- Assumes nothing.
use Prim.Native.Nat.{ℕ, ◌+◌, ◌-◌, ◌<◌}
use Rattle.std.proofs.lemmas.Bool.{eqb-true, eqb-false}
use Rattle.pgs_base.specs.Outcome.{gives, outcome_of}
use Rattle.pgs_base.proofs.Lists.{to_end}
use Rattle.pgs_base.proofs.Outcomes.{gave, gave-value, turned_down, gives_as, refuses-as, passed_on}
use Rattle.pgs_stream.proofs.StreamLaws.{step-accepted, step-refused, Counting, counts-on, counted-refusal, counted-all, counted}
use Rattle.pgs_segment.specs.OneSegment.{segment_verdict, used_by, frame_of}
use Rattle.pgs_stream.specs.Stream.{segment_count}
use Rattle.pgs_segment.specs.declared.segment.Frame.{Frame}
use lib.ListN.{length, take, drop}
use mathlib.Core.List.{List}
use mathlib.Core.Path.{◌≡◌, ap, sym, ◌∙◌}
use native.Mathlib.Omega.{arith}
use Rattle.pgs_stream.proofs.stream.count_segments.Goals as goal

-- after a segment the counting goes on behind it
on : (s : List ℕ) {l : List ℕ} {n used : ℕ} {f : Frame} → Counting s l n → gives f ≡ outcome_of (segment_verdict l) (frame_of l)
    → used ≡ 13 + f.header.segment_size → Counting s (take (length l - used) (drop used l)) (n + 1)
on s {l} {n} {used} c e u =
    let size : used ≡ used_by l = u ∙ ap (λ (f : Frame). 13 + f.header.segment_size) (gave-value (segment_verdict l) (frame_of l) e) in
    rw (to_end used l, size) (counts-on s c (step-accepted l (gave (segment_verdict l) (frame_of l) e)))

pub returns-in_err-check_segment : goal.returns-in_err-check_segment
returns-in_err-check_segment c =
    let s = c.args.s.now in
    let l = c.loop-rest.rest.now in
    let more : 0 < length l = omega (arith, eqb-false (length l) 0 (sym c.is_empty.ensures ∙ c.loop-rest-test.true)) in
    passed_on c.from_residual.result _ c.from_residual.ensures.1
    ∙ refuses-as (segment_count s)
    (counted-refusal s c.loop-rest.invariant more (step-refused l (turned_down (segment_verdict l) (frame_of l) c.in_err-check_segment.ensures)))

pub loop-rest-preserved : goal.loop-rest-preserved
loop-rest-preserved c = on c.args.s.now c.loop-rest.invariant c.in_ok-check_segment.ensures c.used-used.ensures

pub returns : goal.returns
returns c =
    let s = c.args.s.now in
    let end = eqb-true (length c.loop-rest.rest.now) 0 (sym c.is_empty.ensures ∙ c.loop-rest-test.false) in
    gives_as (counted-all s c.loop-rest.invariant end) (counted s c.loop-rest.invariant end)
