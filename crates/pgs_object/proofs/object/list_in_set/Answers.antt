-- `list_in_set` finds the objects, for a list with room for them, then stores the records.
-- Assumes nothing.
use Rattle.pgs_base.proofs.Outcomes.{passed_on}
use Rattle.pgs_reassembly.proofs.ObjectLaws.{lists-refusal, lists-all, fits-list}
use mathlib.Core.Path.{refl, sym}
use native.Mathlib.Omega.{arith}
use Rattle.pgs_object.proofs.object.list_in_set.Goals as goal

pub returns-in_err-find_with_room : goal.returns-in_err-find_with_room
returns-in_err-find_with_room g c =
    rw (passed_on c.from_residual.result _ c.from_residual.ensures.1)
    (lists-refusal g.R.FromRecord.from_record _ _ c.args.objects.now c.in_err-find_with_room.ensures)

pub list_records-requires : goal.list_records-requires
list_records-requires g c =
    let f = rw (sym c.chains-chains.ensures) at c.in_ok-find_with_room.ensures in
    record { rows_bound = omega (arith, (f.found refl).small); rows_in_bounds = fits-list g.R.FromRecord.from_record _ _ c.args.objects.now f }

pub returns : goal.returns
returns g c =
    let f = rw (sym c.chains-chains.ensures) at c.in_ok-find_with_room.ensures in
    lists-all g.R.FromRecord.from_record _ _ c.args.objects.now f c.list_records.ensures
