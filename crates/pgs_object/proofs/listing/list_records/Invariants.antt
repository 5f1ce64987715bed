-- `list_records` stores a record for each row: the records stored and those of the rows left are all of them.
-- Assumes nothing.
use Rattle.std.specs.Prelude.{map, ◌+◌, ◌≡◌}
use Rattle.pgs_base.proofs.Front.{Front}
use Rattle.pgs_reassembly.specs.Tables.{records_from, joined_in}
use Rattle.pgs_object.proofs.listing.list_records.Given as goal

abbrev pub invariant-loop-object : goal.invariant-loop-object
invariant-loop-object g l =
    let records = map g.R.FromRecord.from_record in
    (l.at + joined_in l.left.rest.now ≡ joined_in l.rows)
    × Front l.initial.object-items (records (records_from 0 l.rows)) l.object-items (records (records_from l.at l.left.rest.now)) l.object-index
