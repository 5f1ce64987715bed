-- `join_in_set` finds the objects, tests the scratch, then joins them.
-- Assumes nothing.
use Rattle.pgs_base.proofs.Outcomes.{passed_verdict}
use Rattle.pgs_reassembly.proofs.ListingLaws.{joined-total, joined-sum}
use Rattle.pgs_reassembly.proofs.ObjectLaws.{joins-refusal, joins-short, joins-all}
use mathlib.Core.Path.{refl, sym}
use native.Mathlib.Omega.{arith}
use Rattle.pgs_object.proofs.object.join_in_set.Goals as goal

pub returns-in_err-find_in_set : goal.returns-in_err-find_in_set
returns-in_err-find_in_set c =
    rw (passed_verdict c.from_residual.result _ c.from_residual.ensures.1)
    (joins-refusal _ _ c.args.scratch.now c.in_err-find_in_set.ensures)

pub joined_length-requires : goal.joined_length-requires
joined_length-requires c =
    let rows = c.chains-chains.result.now in
    let f = rw (sym c.chains-chains.ensures) at c.in_ok-find_in_set.ensures in
    omega (arith, (f.found refl).small, joined-total rows, joined-sum rows)

pub returns-then-scratch-joined_length : goal.returns-then-scratch-joined_length
returns-then-scratch-joined_length c =
    let f = rw (sym c.chains-chains.ensures) at c.in_ok-find_in_set.ensures in
    joins-short _ _ c.args.scratch.now f
    (omega (arith, c.if-scratch-joined_length.true, c.joined_length.ensures, joined-sum c.chains-chains.result.now))

pub join_objects-requires : goal.join_objects-requires
join_objects-requires c =
    let f = rw (sym c.chains-chains.ensures) at c.in_ok-find_in_set.ensures in
    record {
      joinable = (f.found refl).joinable;
      rows_in_bounds = omega (arith, c.if-scratch-joined_length.false, c.joined_length.ensures, joined-sum c.chains-chains.result.now);
    }

pub returns : goal.returns
returns c =
    let f = rw (sym c.chains-chains.ensures) at c.in_ok-find_in_set.ensures in
    joins-all _ _ c.args.scratch.now f
    (omega (arith, c.if-scratch-joined_length.false, c.joined_length.ensures, joined-sum c.chains-chains.result.now))
    c.join_objects.ensures
