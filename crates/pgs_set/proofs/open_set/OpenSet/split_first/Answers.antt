use Rattle.pgs_set.proofs.OpenLaws.{is-open}
use Rattle.pgs_set.proofs.SegmentLaws.{first-last, first-more, opens-on}
use Rattle.pgs_set.proofs.SetLaws.{inside-more}
use Rattle.pgs_set.specs.Walks.{InSet}
use Rattle.pgs_set.specs.declared.open_set.OpenSet.{OpenSet}
use Rattle.std.proofs.lemmas.Grind.{merely}
use Rattle.pgs_set.proofs.open_set.OpenSet.split_first.Goals as goal

in-set : (o : OpenSet) → InSet o.stream.now o.from
in-set o = is-open o.stream.now o.from o.in_set

pub segment_at-segment-requires-clause-stream_good : goal.segment_at-segment-requires-clause-stream_good
segment_at-segment-requires-clause-stream_good c = (in-set c.args.self).standing.good

pub segment_at-segment-requires-clause-place_bound : goal.segment_at-segment-requires-clause-place_bound
segment_at-segment-requires-clause-place_bound c = inside-more c.args.self.stream.now (in-set c.args.self)

pub returns-then-is_end : goal.returns-then-is_end
returns-then-is_end c =
    let o = c.args.self in
    first-last o.stream.now (in-set o) c.segment_at-segment.ensures c.kind.ensures c.is_end.ensures c.if-is_end.true

pub invariant_of-rest : goal.invariant_of-rest
invariant_of-rest c =
    let o = c.args.self in
    record { in_set = merely (opens-on o.stream.now (in-set o) c.segment_at-segment.ensures c.kind.ensures c.is_end.ensures c.if-is_end.false) }

pub returns : goal.returns
returns c =
    let o = c.args.self in
    first-more o.stream.now (in-set o) c.segment_at-segment.ensures c.kind.ensures c.is_end.ensures c.if-is_end.false
