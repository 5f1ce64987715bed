-- `reassemble_objects` finds the set and its objects, for a list with room for them, tests the scratch, then lists and joins them.
-- Assumes nothing.
use Rattle.pgs_base.specs.Outcome.{Verdict, accepted, refused, and_then, needing}
use Rattle.pgs_base.specs.Refusals.{number_of}
use Rattle.pgs_base.proofs.Outcomes.{passed_on}
use Rattle.pgs_reassembly.proofs.ListingLaws.{joined-total, joined-sum}
use Rattle.pgs_reassembly.proofs.ObjectLaws.{set-found, no-set, found-refusal, reassembles-refusal, reassembles-short, reassembles-all}
use Rattle.pgs_reassembly.specs.Objects.{objects_of, objects_verdict}
use Rattle.pgs_reassembly.specs.Tables.{Found}
use lib.ListN.{length}
use mathlib.Core.List.{[]}
use mathlib.Core.Path.{refl, sym, ap}
use native.Mathlib.Omega.{arith}
use Rattle.pgs_object.proofs.object.reassemble_objects.Goals.{After-chains-rows}
use Rattle.pgs_object.proofs.object.reassemble_objects.Given.{Over}
use Rattle.pgs_object.proofs.object.reassemble_objects.Goals as goal

-- no such set
pub returns-in_err-placed_set : goal.returns-in_err-placed_set
returns-in_err-placed_set g c =
    let s = c.args.s.now in
    let k = c.args.set in
    let list = c.args.objects.now in
    let no = ap (λ (v : Verdict). and_then v (needing (length (objects_of k s)) (length list))) (no-set 64 k s c.in_err-placed_set.ensures) in
    rw (passed_on c.from_residual.result _ c.from_residual.ensures.1)
    (reassembles-refusal g.R.FromRecord.from_record (objects_verdict k s) (objects_of k s) list c.args.scratch.now (found-refusal {s = s} {now = []} no))

-- its objects are refused, or there is no room for their records
pub returns-in_err-find_with_room : goal.returns-in_err-find_with_room
returns-in_err-find_with_room g c =
    let list = c.args.objects.now in
    let table = c.find_with_room.new.self in
    let why = refused (number_of c.in_err-find_with_room.field-0.0) in
    let f =
    set-found c.args.set c.in_ok-placed_set.field-0 c.in_ok-placed_set.ensures c.open-found.ensures.stream_value c.open-found.ensures.from_value
    (λ s v cs. Found s (and_then v (needing (length cs) (length list))) cs table why) c.in_err-find_with_room.ensures in
    rw (passed_on c.from_residual-in_err-find_with_room.result _ c.from_residual-in_err-find_with_room.ensures.1)
    (reassembles-refusal g.R.FromRecord.from_record _ _ list c.args.scratch.now f)

-- they are found
finds : (g : Over) (c : After-chains-rows g)
    → let s = c.args.s.now in let k = c.args.set in
    Found s (and_then (objects_verdict k s) (needing (length (objects_of k s)) (length c.args.objects.now))) (objects_of k s) c.chains-rows.result.now accepted
finds g c =
    let room = length c.args.objects.now in
    let rows = c.chains-rows.result.now in
    set-found c.args.set c.in_ok-placed_set.field-0 c.in_ok-placed_set.ensures c.open-found.ensures.stream_value c.open-found.ensures.from_value
    (λ s v cs. Found s (and_then v (needing (length cs) room)) cs rows accepted) (rw (sym c.chains-rows.ensures) at c.in_ok-find_with_room.ensures)

pub joined_length-requires : goal.joined_length-requires
joined_length-requires g c =
    let rows = c.chains-rows.result.now in
    omega (arith, c.well_formed.0.0, ((finds g c).found refl).small, joined-total rows, joined-sum rows)

pub returns-then-scratch-joined_length : goal.returns-then-scratch-joined_length
returns-then-scratch-joined_length g c =
    let f = finds g (goal.at.returns-then-scratch-joined_length g c).After-chains-rows in
    reassembles-short g.R.FromRecord.from_record _ _ c.args.objects.now c.args.scratch.now f
    (omega (arith, c.if-scratch-joined_length.true, c.joined_length.ensures, joined-sum c.chains-rows.result.now))

pub join_objects-requires : goal.join_objects-requires
join_objects-requires g c =
    let f = finds g (goal.at.join_objects-requires g c).After-chains-rows in
    record {
      joinable = (f.found refl).joinable;
      rows_in_bounds = omega (arith, c.if-scratch-joined_length.false, c.joined_length.ensures, joined-sum c.chains-rows.result.now);
    }

pub returns : goal.returns
returns g c =
    let f = finds g (goal.at.returns g c).After-chains-rows in
    reassembles-all g.R.FromRecord.from_record _ _ c.args.objects.now c.args.scratch.now f
    (omega (arith, c.if-scratch-joined_length.false, c.joined_length.ensures, joined-sum c.chains-rows.result.now))
    c.list_records.ensures c.join_objects.ensures
