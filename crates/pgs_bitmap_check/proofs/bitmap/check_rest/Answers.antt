-- `check_rest` meets its contract. The loop's invariant: reading on from this place comes to the same. The measure is what is left of
-- the data. Assumes nothing.
use mathlib.Core.Path.{◌≡◌, ◌∙◌, ap}
use lib.ListN.{drop}
use Rattle.std.specs.Prelude.{Ok, Err}
use Rattle.pgs_base.proofs.Outcomes.{passed_verdict}
use Rattle.pgs_run_length.specs.RunLength.{run, line_end, found, code_of}
use Rattle.pgs_run_length.proofs.Answered.{answered-code, answered-none, answered-error}
use Rattle.pgs_bitmap_check.proofs.BitmapSteps.{Stepped, reached-step, reached-end, reached-truncated, ran-stepped, ended-stepped}
use Rattle.pgs_bitmap_check.proofs.bitmap.check_rest.Goals.{In-Run, In-LineEnd, In_ok-place-in-Run, In_ok-place-in-LineEnd}
use Rattle.pgs_bitmap_check.proofs.bitmap.check_rest.Goals as goal

-- the code at the place, in two arms
run-here : (c : In-Run)
    → code_of (drop c.loop-code.place.at c.args.«data».now)
    ≡ found (run c.in-Run.run'.count c.in-Run.run'.color) c.in-Run.run'.taken
run-here c = answered-code c.args.«data».now c.loop-code.place.at c.next_code.ensures (c.in_ok-code.was ∙ ap Ok c.in-Some.is) c.in-Run.is

line-end-here : (c : In-LineEnd) → code_of (drop c.loop-code.place.at c.args.«data».now) ≡ found line_end 2
line-end-here c = answered-code c.args.«data».now c.loop-code.place.at c.next_code.ensures (c.in_ok-code.was ∙ ap Ok c.in-Some.is) c.in-LineEnd.is

-- the step that each makes
ran : (c : In_ok-place-in-Run) → Stepped c.args.«data».now c.args.size c.loop-code.place (Ok c.in_ok-place-in-Run.place)
ran c =
    let at = (goal.at.loop-code-preserved-in_ok-place-in-Run c).In-Run in
    ran-stepped c.loop-code.invariant.inside _ (Ok c.in_ok-place-in-Run.place) (run-here at) c.in_ok-place-in-Run.ensures

ended : (c : In_ok-place-in-LineEnd) → Stepped c.args.«data».now c.args.size c.loop-code.place (Ok c.in_ok-place-in-LineEnd.place)
ended c =
    let at = (goal.at.loop-code-preserved c).In-LineEnd in
    ended-stepped c.loop-code.invariant.inside (Ok c.in_ok-place-in-LineEnd.place) (line-end-here at) c.in_ok-place-in-LineEnd.ensures

pub loop-code-preserved-in_ok-place-in-Run : goal.loop-code-preserved-in_ok-place-in-Run
loop-code-preserved-in_ok-place-in-Run c = reached-step c.loop-code.place c.loop-code.invariant.same (ran c).1

pub loop-code-preserved : goal.loop-code-preserved
loop-code-preserved c = reached-step c.loop-code.place c.loop-code.invariant.same (ended c).1

pub returns-in_err-code : goal.returns-in_err-code
returns-in_err-code c =
    passed_verdict c.from_residual.result _ c.from_residual.ensures.1
    ∙ reached-truncated c.loop-code.invariant (answered-error c.args.«data».now c.loop-code.place.at c.next_code.ensures c.in_err-code.was)

pub returns-in_err-place-in-Run : goal.returns-in_err-place-in-Run
returns-in_err-place-in-Run c =
    let passed = c.from_residual-in_err-place-in-Run in
    let at = (goal.at.returns-in_err-place-in-Run c).In-Run in
    passed_verdict passed.result _ passed.ensures.1
    ∙ ran-stepped c.loop-code.invariant.inside _ (Err c.in_err-place-in-Run.field-0.0) (run-here at) c.in_err-place-in-Run.ensures
    ∙ c.loop-code.invariant.same

pub returns-in_err-place-in-LineEnd : goal.returns-in_err-place-in-LineEnd
returns-in_err-place-in-LineEnd c =
    let passed = c.from_residual-in_err-place-in-LineEnd in
    let at = (goal.at.returns-in_err-place-in-LineEnd c).In-LineEnd in
    passed_verdict passed.result _ passed.ensures.1
    ∙ ended-stepped c.loop-code.invariant.inside (Err c.in_err-place-in-LineEnd.field-0.0) (line-end-here at) c.in_err-place-in-LineEnd.ensures
    ∙ c.loop-code.invariant.same

pub returns : goal.returns
returns c =
    c.end_of_data.ensures
    ∙ reached-end c.loop-code.invariant (answered-none c.args.«data».now c.loop-code.place.at c.next_code.ensures (c.in_ok-code.was ∙ ap Ok c.in_default.is))
