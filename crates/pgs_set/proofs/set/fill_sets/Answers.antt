-- `fill_sets` stores a record for each set: at the end of the list all are stored.
-- Assumes nothing.
use Rattle.pgs_base.proofs.Front.{begins, filled-whole}
use Rattle.pgs_set.proofs.RecordLaws.{set-records}
use Rattle.pgs_set.specs.Records.{set_records}
use mathlib.Core.List.{map}
use mathlib.Core.Path.{sym, ◌∙◌}
use native.Mathlib.Omega.{arith}
use Rattle.pgs_set.proofs.set.fill_sets.Goals as goal

pub loop-record-init : goal.loop-record-init
loop-record-init g c =
    rw c.records-records.ensures (begins c.args.list.now (map g.R.FromRecord.from_record (set_records c.args.sets.stream.now)))

pub returns : goal.returns
returns g c =
    filled-whole c.loop-record.invariant (omega arith)
    (set-records g.R.FromRecord.from_record c.args.sets.stream.now ∙ sym c.args.sets.counted ∙ c.requires)
