-- `fill_rows` stores the records from the front: the loop keeps `Filling`.
-- Assumes nothing.
use Rattle.pgs_records.proofs.RecordLaws.{next_fits, turn, stored-rows}
use Prim.Native.Nat.{ℕ}
use lib.ListN.{length}
use mathlib.Core.List.{List}
use mathlib.Core.Path.{◌≡◌, ap, ◌∙◌}
use native.Mathlib.Omega.{arith}
use Rattle.pgs_records.proofs.list.fill_rows.Goals as goal

pub slice_bounds-rest-count : goal.slice_bounds-rest-count
slice_bounds-rest-count g c = omega (arith, next_fits _ _ _ c.loop-row.invariant c.loop-row-test.true, c.size.ensures)

pub slice_bounds-rest-start : goal.slice_bounds-rest-start
slice_bounds-rest-start g c = omega (arith, next_fits _ _ _ c.loop-row.invariant c.loop-row-test.true, c.size.ensures)

pub loop-row-preserved : goal.loop-row-preserved
loop-row-preserved g c =
    let r = g.R.ListRecord in
    turn (λ (t : List ℕ). r.to_row (r.value t)) r.size _ c.loop-row.invariant c.loop-row-test.true
    (c.to_row.ensures ∙ ap r.to_row c.read.ensures) c.size.ensures (omega arith)

pub returns : goal.returns
returns g c =
    let r = g.R.ListRecord in
    let e : c.loop-row.row-index ≡ length c.args.rows.now = omega arith in
    stored-rows r.to_row r.value r.size c.args.l.now (rw e at c.loop-row.invariant)
