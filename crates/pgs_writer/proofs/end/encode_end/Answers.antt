-- `encode_end` writes no data.
-- Assumes nothing.
use Rattle.std.proofs.Common.{rules, refl, arith}
use Rattle.pgs_segment.specs.Fields.{end}
use Rattle.pgs_views.specs.declared.segment_type.SegmentType.TheVariants.{End}
use Rattle.pgs_writer_base.proofs.BodyLaws.{data-answer}
use Rattle.pgs_writer_base.proofs.WriteLaws.{TimesFit}
use Rattle.pgs_writer.proofs.end.encode_end.Goals.{Start}
use Rattle.pgs_writer.proofs.end.encode_end.Goals as goal

-- the times fit their types
times_fit : (c : Start) → TimesFit c.args.times
times_fit c = search rules

pub returns : goal.returns
returns c = data-answer c.args.times (times_fit (goal.at.returns c).Start) End end refl (omega arith) refl refl c.encode_data.ensures
