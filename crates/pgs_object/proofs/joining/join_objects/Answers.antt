use Rattle.pgs_reassembly.proofs.JoinLaws.{places-none, places-on}
use Rattle.pgs_object.proofs.joining.join_objects.Goals.{then-row, else-row}
use Rattle.pgs_object.proofs.joining.join_objects.Goals as goal

pub loop-row-preserved : goal.loop-row-preserved
loop-row-preserved c =
    let s = c.args.s.now in
    elim c.if-row.branch [
      | then-row w ↦
          rw (w.scratch-is, w.at-is)
          (places-on s c.args.rows.now c.loop-row.invariant c.loop-row-test.true w.if-row.true c.requires.rows_in_bounds w.join_chain.ensures)
      | else-row w ↦ rw (w.scratch-is, w.at-is) (places-none s c.args.rows.now c.loop-row.invariant c.loop-row-test.true w.if-row.false)
    ]
