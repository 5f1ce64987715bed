use Rattle.pgs_base.proofs.Outcomes.{passed_verdict}
use Rattle.pgs_reassembly.proofs.FindLaws.{Reads, finding, finds-all, finds-refusal, finds-more, reads-one}
use Rattle.pgs_set.proofs.OpenLaws.{is-open}
use mathlib.Core.Path.{refl, ap, ◌∙◌}
use Rattle.pgs_set.specs.Segments.{set_segments_left}
use Rattle.pgs_object.proofs.chain.ChainTable.find_chains.Goals.{In-Some-read_fragment}
use Rattle.pgs_object.proofs.chain.ChainTable.find_chains.Goals as goal

pub loop-segment-init : goal.loop-segment-init
loop-segment-init c =
    let set = c.args.set in
    finding set.stream.now set.from (is-open set.stream.now set.from set.in_set)
    (ap set_segments_left c.into_iter-segment-iterator.ensures.into_iter_gives ∙ c.segments-segment-items.ensures)

-- the fragment that was read
one : (c : In-Some-read_fragment)
    → Reads c.args.set.stream.now (set_segments_left c.loop-segment.segment-iterator) c.in-Some.segment (set_segments_left c.next.new.self) c.in-Some-read_fragment.f
one c =
    reads-one c.args.set.stream.now c.loop-segment.invariant.stand c.in-Some.ensures.steps c.read_fragment.ensures c.in-Some-read_fragment.is

pub returns-in_err-take-clause-chains : goal.returns-in_err-take-clause-chains
returns-in_err-take-clause-chains c =
    let set = c.args.set in
    let f = one (goal.at.returns-in_err-take-clause-chains c).In-Some-read_fragment in
    rw (passed_verdict c.from_residual.result _ c.from_residual.ensures.1)
    (finds-refusal set.stream.now set.from c.loop-segment.invariant f c.in_err-take.ensures refl)

pub loop-segment-preserved-in-Continue-1 : goal.loop-segment-preserved-in-Continue-1
loop-segment-preserved-in-Continue-1 c =
    let set = c.args.set in
    let f = one (goal.at.loop-segment-preserved-in-Continue-1 c).In-Some-read_fragment in
    finds-more set.stream.now set.from c.loop-segment.invariant f c.in_ok-take.ensures refl

pub returns-clause-chains : goal.returns-clause-chains
returns-clause-chains c =
    let set = c.args.set in finds-all set.stream.now set.from c.loop-segment.invariant c.in-None.ensures.steps.0
