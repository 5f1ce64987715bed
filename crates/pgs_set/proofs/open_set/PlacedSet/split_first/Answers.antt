use Rattle.pgs_set.proofs.SetLaws.{opens-here}
use Rattle.pgs_stream.specs.declared.segments.PlacedSegment.{PlacedSegment}
use Rattle.std.proofs.lemmas.Grind.{merely}
use mathlib.Core.Path.{ap}
use Rattle.pgs_set.proofs.open_set.PlacedSet.split_first.Goals as goal

pub segment_at-pcs-requires-clause-stream_good : goal.segment_at-pcs-requires-clause-stream_good
segment_at-pcs-requires-clause-stream_good c = c.args.self.begins.standing.good

pub segment_at-pcs-requires-clause-place_bound : goal.segment_at-pcs-requires-clause-place_bound
segment_at-pcs-requires-clause-place_bound c = c.args.self.begins.more

pub invariant_of-others : goal.invariant_of-others
invariant_of-others c =
    let it = c.args.self in
    record { in_set = rw (ap (λ (x : PlacedSegment). x.end) c.segment_at-pcs.ensures) (merely (opens-here it.stream.now it.begins.standing it.begins.more)) }
