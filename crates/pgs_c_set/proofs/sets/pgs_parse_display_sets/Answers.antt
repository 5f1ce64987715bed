-- The list has the rows of the sets, which are those of their records. Assumes nothing.
use Rattle.pgs_set.proofs.RecordLaws.{rows-of-records}
use Rattle.std.proofs.Common.{rules}
use Rattle.pgs_c_set.proofs.sets.pgs_parse_display_sets.Goals as goal

pub returns : goal.returns
returns c = let delivered = rw (rows-of-records c.args.stream.now) at c.parse_display_sets.ensures in search rules
