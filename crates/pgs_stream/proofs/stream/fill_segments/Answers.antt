-- `fill_segments` stores a record for each segment: at the end of the list all are stored.
-- Assumes nothing.
use Rattle.pgs_base.proofs.Front.{filled-whole}
use Rattle.pgs_stream.specs.Segments.{segments_left}
use Rattle.std.proofs.lemmas.List.{length-map}
use mathlib.Core.Path.{◌∙◌}
use native.Mathlib.Omega.{arith}
use Rattle.pgs_stream.proofs.stream.fill_segments.Goals as goal

pub returns : goal.returns
returns g c =
    filled-whole c.loop-record.invariant (omega arith)
    (length-map (segments_left c.args.segments) g.R.FromRecord.from_record ∙ c.requires)
