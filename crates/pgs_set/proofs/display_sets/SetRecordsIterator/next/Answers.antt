use Rattle.pgs_segment.specs.OneSegment.{used_by}
use Rattle.pgs_set.proofs.RecordLaws.{sets-none, next-records}
use Rattle.pgs_set.specs.Sets.{set_record, sets_from}
use Rattle.pgs_set.specs.Walks.{pieces_at, Ends}
use Prim.Native.Nat.{◌+◌}
use lib.ListN.{length, drop}
use mathlib.Core.List.{◌∷◌, map}
use mathlib.Core.Path.{◌≡◌, ap}
use native.Mathlib.Omega.{arith}
use Rattle.pgs_set.proofs.display_sets.SetRecordsIterator.next.Goals.{After-end-end}
use Rattle.pgs_set.proofs.display_sets.SetRecordsIterator.next.Goals as goal

-- the record of the next set, and those of the sets after it
step : (c : After-end-end)
    → map set_record (sets_from c.args.self.now.at (pieces_at c.args.self.now.stream.now c.args.self.now.at))
    ≡ record { place = c.args.self.now.at; end = c.end-end.result; pts = c.split_first.result.0.header.pts }
    ∷ map set_record (sets_from c.end-end.result (pieces_at c.args.self.now.stream.now c.end-end.result))
step c =
    let it = c.args.self.now in
    let s = it.stream.now in
    let e : Ends s (it.at + used_by (drop it.at s)) c.end-end.result = rw (c.split_first.ensures.stream_value, c.split_first.ensures.from_value) at c.end-end.ensures in
    next-records s (record { standing = it.standing; more = c.if-s-place.false }) e (ap (λ x. x.header.pts) c.split_first.ensures.pcs_value)

pub returns-then-s-place-clause-steps : goal.returns-then-s-place-clause-steps
returns-then-s-place-clause-steps c =
    let it = c.args.self.now in
    let none = ap (map set_record) (sets-none it.stream.now it.at c.if-s-place.true) in
    (none, none)

pub returns-clause-steps : goal.returns-clause-steps
returns-clause-steps c = step (goal.at.returns-clause-steps c).After-end-end

pub returns-clause-goes : goal.returns-clause-goes
returns-clause-goes c =
    let e = ap length (step (goal.at.returns-clause-goes c).After-end-end) in
    record { on = λ h. (tt, tt, omega arith); keeps = tt; rests = λ h. tt }
