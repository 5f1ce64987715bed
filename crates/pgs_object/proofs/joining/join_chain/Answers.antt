use Rattle.pgs_reassembly.proofs.FindLaws.{Reads, reads-one}
use Rattle.pgs_reassembly.proofs.JoinLaws.{joining, joins-from, joins-to, joins-on, joined-all}
use Rattle.pgs_set.proofs.OpenLaws.{is-open}
use Rattle.pgs_set.specs.Segments.{set_segments_left}
use mathlib.Core.Path.{ap, ◌∙◌}
use native.Mathlib.Omega.{arith}
use Rattle.pgs_object.proofs.joining.join_chain.Goals.{In-Some-read_fragment}
use Rattle.pgs_object.proofs.joining.join_chain.Goals as goal

pub loop-segment-init : goal.loop-segment-init
loop-segment-init c =
    let set = c.args.set in
    joining set.stream.now set.from c.args.id (is-open set.stream.now set.from set.in_set)
    (ap set_segments_left c.into_iter-segment-iterator.ensures.into_iter_gives ∙ c.segments-segment-items.ensures)
    c.args.out.now c.requires

-- the fragment that was read
one : (c : In-Some-read_fragment)
    → Reads c.args.set.stream.now (set_segments_left c.loop-segment.segment-iterator) c.in-Some.segment (set_segments_left c.next.new.self) c.in-Some-read_fragment.f
one c =
    reads-one c.args.set.stream.now c.loop-segment.invariant.stand c.in-Some.ensures.steps c.read_fragment.ensures c.in-Some-read_fragment.is

pub overflow_add-stop : goal.overflow_add-stop
overflow_add-stop c =
    let set = c.args.set in
    let f = one (goal.at.overflow_add-stop c).In-Some-read_fragment in
    omega (arith, c.ranges.set.0, joins-from set.stream.now set.from c.args.id c.loop-segment.invariant f c.if-f-id.true)

pub slice_bounds-copy_from_slice-end : goal.slice_bounds-copy_from_slice-end
slice_bounds-copy_from_slice-end c =
    let set = c.args.set in
    let f = one (goal.at.slice_bounds-copy_from_slice-end c).In-Some-read_fragment in
    omega (arith, joins-to set.stream.now set.from c.args.id c.loop-segment.invariant f c.if-f-id.true)

pub slice_bounds-copy_from_slice-end-then-f-id : goal.slice_bounds-copy_from_slice-end-then-f-id
slice_bounds-copy_from_slice-end-then-f-id c =
    let set = c.args.set in
    let f = one (goal.at.slice_bounds-copy_from_slice-end-then-f-id c).In-Some-read_fragment in
    omega (arith, joins-from set.stream.now set.from c.args.id c.loop-segment.invariant f c.if-f-id.true)

pub returns-then-k-out : goal.returns-then-k-out
returns-then-k-out c =
    let set = c.args.set in
    let f = one (goal.at.returns-then-k-out c).In-Some-read_fragment in
    let now = joins-on set.stream.now set.from c.args.id c.loop-segment.invariant f c.if-f-id.true c.copy_from_slice.ensures.after in
    joined-all set.stream.now set.from c.args.id now (omega (arith, c.if-k-out.true))

pub loop-segment-preserved-else-k-out : goal.loop-segment-preserved-else-k-out
loop-segment-preserved-else-k-out c =
    let set = c.args.set in
    let f = one (goal.at.loop-segment-preserved-else-k-out c).In-Some-read_fragment in
    joins-on set.stream.now set.from c.args.id c.loop-segment.invariant f c.if-f-id.true c.copy_from_slice.ensures.after
