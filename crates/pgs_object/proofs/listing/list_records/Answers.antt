-- `list_records` stores a record for each row: at the end of the list all are stored.
-- Assumes nothing.
use Rattle.std.specs.Prelude.{◌≡◌, ◌++◌, map, length}
use Rattle.pgs_base.proofs.Front.{stored, filled-whole}
use Rattle.pgs_reassembly.proofs.ListingLaws.{joined-total, rows-length, rows-next}
use Rattle.pgs_reassembly.specs.Reassembly.{record_joined}
use Rattle.pgs_reassembly.specs.Tables.{records_from, joined_in}
use Rattle.std.proofs.lemmas.List.{length-map}
use lib.ListN.{drop, take, length-append}
use lib.Seq.{length-take-le}
use mathlib.Core.Path.{ap, sym, ◌∙◌}
use native.Mathlib.Omega.{arith}
use Rattle.pgs_object.proofs.listing.list_records.Goals as goal
use Rattle.pgs_object.proofs.listing.list_records.Goals.{in-Some, in_default}

pub overflow_add-at : goal.overflow_add-at
overflow_add-at g c =
    omega (
      arith,
      joined-total c.args.rows.now,
      c.requires.rows_bound,
      c.joined_len-at.ensures ∙ ap record_joined c.object_record-record.ensures,
      ap joined_in c.in-Some.ensures.steps,
      c.loop-object.invariant.0,
    )

pub loop-object-preserved : goal.loop-object-preserved
loop-object-preserved g c =
    elim c.match-next.branch [
      | in-Some w ↦
          let k = w.joined_len-at.ensures ∙ ap record_joined w.object_record-record.ensures in
          let next =
          rows-next g.R.FromRecord.from_record c.loop-object.at w.in-Some.ensures.steps
          (w.from_record.ensures ∙ ap g.R.FromRecord.from_record w.object_record-record.ensures) k in (
            omega (arith, w.at-is, k, ap joined_in w.in-Some.ensures.steps, c.loop-object.invariant.0),
            rw (w.at-is, w.object-items-is)
                (stored w.from_record.result (rw next at c.loop-object.invariant.1) (omega (arith, c.loop-object-test.true, c.loop-object.auto.object-items))),
          )
      | in_default w ↦
          let made = g.R.FromRecord.from_record in
          let rows = c.args.rows.now in
          let left = c.loop-object.left.rest.now in
          let at = c.loop-object.at in
          let front = c.loop-object.invariant.1 in
          absurd
          (omega (
            arith,
            w.in_default.ensures.steps.0,
            c.loop-object-test.true,
            ap length front.done,
            length-append (take c.loop-object.object-index c.loop-object.object-items) (map made (records_from at left)),
            length-take-le c.loop-object.object-index c.loop-object.object-items front.within,
            length-map (records_from at left) made ∙ rows-length at left,
            length-map (records_from 0 rows) made ∙ rows-length 0 rows,
            length-take-le (length rows) c.args.objects.now c.requires.rows_in_bounds,
          ))
    ]

pub returns : goal.returns
returns g c =
    let made = g.R.FromRecord.from_record in
    let rows = c.args.rows.now in
    let whole : length (map made (records_from 0 rows)) ≡ length rows = length-map (records_from 0 rows) made ∙ rows-length 0 rows in
    let all =
    filled-whole c.loop-object.invariant.1 (omega (arith, c.loop-object-test.false, c.loop-object.auto.object-items))
    (omega (arith, whole, length-take-le (length rows) c.args.objects.now c.requires.rows_in_bounds)) in
    λ j. all j ++ drop (sym whole j) c.args.objects.now
