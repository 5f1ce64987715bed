-- `list_objects` finds the set, then lists its objects.
-- Assumes nothing.
use Rattle.pgs_base.specs.Outcome.{Verdict, Delivered, outcome}
use Rattle.pgs_base.proofs.Outcomes.{passed_on, delivers-refusal}
use Rattle.pgs_reassembly.proofs.ObjectLaws.{set-found, no-set}
use Rattle.pgs_reassembly.specs.Objects.{Chain}
use Rattle.pgs_reassembly.specs.Reassembly.{object_records}
use lib.ListN.{length}
use mathlib.Core.List.{List, map}
use Prim.Native.Nat.{ℕ}
use Rattle.pgs_object.proofs.object.list_objects.Goals as goal

pub returns-in_err-placed_set : goal.returns-in_err-placed_set
returns-in_err-placed_set g c =
    rw (passed_on c.from_residual.result _ c.from_residual.ensures.1) (delivers-refusal (no-set 64 c.args.set c.args.s.now c.in_err-placed_set.ensures))

pub returns : goal.returns
returns g c =
    let made = g.R.FromRecord.from_record in
    let lists : List ℕ → Verdict → List Chain → Type 0
    = λ s v cs. Delivered v (length cs) (map made (object_records cs)) c.args.objects.now c.list_in_set.new.objects (outcome c.list_in_set.result) in
    set-found c.args.set c.in_ok-placed_set.field-0 c.in_ok-placed_set.ensures c.«open».ensures.stream_value c.«open».ensures.from_value lists c.list_in_set.ensures
