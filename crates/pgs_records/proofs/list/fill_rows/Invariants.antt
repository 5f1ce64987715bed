-- `fill_rows` stores the records from the front: the loop keeps `Filling`.
-- Assumes nothing.
use Rattle.pgs_records.proofs.RecordLaws.{Filling}
use Rattle.pgs_records.specs.Records.{records}
use Prim.Native.Nat.{ℕ}
use lib.ListN.{length}
use mathlib.Core.List.{List}
use Rattle.pgs_records.proofs.list.fill_rows.Given as goal

abbrev pub invariant-loop-row : goal.invariant-loop-row
invariant-loop-row g l =
    let r = g.R.ListRecord in
    let row = λ (t : List ℕ). r.to_row (r.value t) in
    let n = length l.initial.rows in
    Filling row r.size n (records row r.size n l.l) l.initial.rows l.rows l.row-index l.rest
