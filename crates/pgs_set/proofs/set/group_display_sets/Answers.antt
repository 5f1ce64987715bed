use Rattle.std.proofs.lemmas.Bool.{eqb-true, eqb-false}
use Rattle.pgs_base.proofs.Lists.{to_end}
use Rattle.pgs_base.proofs.Outcomes.{gave, gave-value, turned_down, refuses-as, passed_on}
use Rattle.pgs_base.specs.Outcome.{accepted, refused, gives, outcome, outcome_of, and_then, pick}
use Rattle.std.proofs.Common.{rules}
use Rattle.pgs_base.specs.Refusals.{number_of}
use Rattle.pgs_segment.specs.Header.{header_fields}
use Rattle.pgs_segment.specs.OneSegment.{segment_verdict, frame_of}
use Rattle.pgs_segment.specs.declared.segment.Frame.{Frame}
use Rattle.pgs_stream.proofs.StreamLaws.{step-accepted, step-refused}
use Rattle.pgs_stream.specs.Stream.{step_verdict, stream_verdict}
use Rattle.pgs_set.proofs.SetLaws.{counting, counts-on, counted-short, counted-refusal, counted-sets}
use Rattle.pgs_set.specs.Sets.{kind_verdict, state_after, set_count}
use Prim.Native.Nat.{ℕ, ◌-◌, ◌<◌}
use Rattle.std.specs.Prelude.{Result, Ok, Err}
use lib.ListN.{length, take, drop}
use mathlib.Core.List.{List}
use mathlib.Core.Path.{◌≡◌, refl, sym, ap, ◌∙◌}
use mathlib.Core.Bool.{Bool, true, false}
use mir.Val.{bool_byte}
use native.Mathlib.Omega.{arith}
use Rattle.pgs_set.proofs.set.group_display_sets.Goals as goal

-- the segment that was read
module _ (l : List ℕ) {f : Frame} (framed : gives f ≡ outcome_of (segment_verdict l) (frame_of l)) where
  ok : step_verdict l ≡ accepted
  ok = step-accepted l (gave (segment_verdict l) (frame_of l) framed)

  head : f.header ≡ header_fields l
  head = ap (λ (g : Frame). g.header) (gave-value (segment_verdict l) (frame_of l) framed)

-- a bool as a number
as_number : (b : Bool) → bool_byte b ≡ pick b 1 0
as_number true = refl
as_number false = refl

pub loop-rest-init : goal.loop-rest-init
loop-rest-init c = counting c.args.s.now

pub returns-in_err-header : goal.returns-in_err-header
returns-in_err-header c =
    let s = c.args.s.now in
    let l = c.loop-rest.rest.now in
    let more : 0 < length l = omega (arith, eqb-false (length l) 0 (sym c.is_empty.ensures ∙ c.loop-rest-test.true)) in
    passed_on c.from_residual.result _ c.from_residual.ensures.1
    ∙ refuses-as (set_count s)
    (counted-short s c.loop-rest.invariant more (step-refused l (turned_down (segment_verdict l) (frame_of l) c.in_err-header.ensures)))

-- a result gives a value or an error
by_case : {A B : Type 0} (r : Result A B) {P : Type 0} → ((x : A) → r ≡ Ok x → P) → ((y : B) → r ≡ Err y → P) → P
by_case (Ok x) f g = f x refl
by_case (Err y) f g = g y refl

pub returns-in_err-state : goal.returns-in_err-state
returns-in_err-state c =
    let s = c.args.s.now in
    let l = c.loop-rest.rest.now in
    let rest = take (length l - c.used.result) (drop c.used.result l) in
    let k = number_of c.in_err-state.field-0.0 in
    let e = c.in_ok-header.ensures in
    passed_on c.from_residual-in_err-state.result _ c.from_residual-in_err-state.ensures.1
    ∙ refuses-as (set_count s)
    (by_case c.group_segment.result
    (λ x q. absurd (search rules))
    (λ w q.
    let first : refused k ≡ and_then (stream_verdict rest) (refused (number_of w)) = search rules in
    rw first
    (rw (to_end c.used.result l, c.used.ensures)
    (sym (counted-refusal s c.loop-rest.invariant (ok l e) (head l e) c.kind-kind.ensures (ap outcome (sym q) ∙ c.group_segment.ensures))))))

pub loop-rest-preserved : goal.loop-rest-preserved
loop-rest-preserved c =
    let l = c.loop-rest.rest.now in
    let e = c.in_ok-header.ensures in
    let k : gives c.in_ok-state.state ≡ outcome_of (kind_verdict c.loop-rest.state c.kind-kind.result) (state_after c.loop-rest.state c.kind-kind.result) = search rules in
    rw (to_end c.used.result l, c.used.ensures)
    (counts-on c.args.s.now c.loop-rest.invariant (ok l e) (head l e) c.kind-kind.ensures k
    (c.from.ensures ∙ as_number c.is_pcs.result ∙ ap (λ (b : Bool). pick b 1 0) c.is_pcs.ensures))

pub returns : goal.returns
returns c =
    c.grouped.ensures
    ∙ counted-sets c.args.s.now c.loop-rest.invariant (eqb-true (length c.loop-rest.rest.now) 0 (sym c.is_empty.ensures ∙ c.loop-rest-test.false))
