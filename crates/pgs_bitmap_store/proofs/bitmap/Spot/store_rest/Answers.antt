-- `store_rest` meets its contract. The loop's invariant: the pixels of the codes before this spot are stored. The measure is what is
-- left of the data. Assumes nothing.
use mathlib.Core.Path.{◌≡◌, ◌∙◌, ap}
use native.Mathlib.Nat.{add-zero}
use lib.ListN.{drop}
use Rattle.std.specs.Prelude.{None, Ok}
use Rattle.pgs_run_length.specs.RunLength.{code_of}
use Rattle.pgs_run_length.specs.NextCode.{first_code}
use Rattle.pgs_run_length.specs.declared.code.Code.{Code}
use Rattle.pgs_run_length.proofs.Answered.{answered-code, answered-none, answered-error}
use Rattle.pgs_bitmap_store.proofs.BitmapStores.{storing-run, storing-line, storing-past, storing-truncated, storing-end, behind-later}
use Rattle.pgs_bitmap_store.proofs.bitmap.Spot.store_rest.Goals.{In-Ok-Some}
use Rattle.pgs_bitmap_store.proofs.bitmap.Spot.store_rest.Goals as goal

-- the code at the spot
code-here : (c : In-Ok-Some) {code : Code} → c.in-Ok-Some.code ≡ code → code_of (drop c.loop-code.spot.at c.args.«data».now) ≡ first_code (Ok code)
code-here c is = answered-code c.args.«data».now c.loop-code.spot.at c.next_code.ensures (c.in-Ok-Some.is ∙ ap Ok c.in-Ok-Some.field-0-is) is

pub loop-code-preserved-in-Run : goal.loop-code-preserved-in-Run
loop-code-preserved-in-Run c =
    let code = code-here ((goal.at.loop-code-preserved-in-Run c).In-Ok-Some) c.in-Run.is in (
      c.store_run-spot.auto.pixels ∙ c.loop-code.invariant.0,
      storing-past c.store_run-spot.ensures.past (storing-run c.loop-code.invariant.1 code c.store_run-spot.auto.pixels c.store_run-spot.ensures.filled),
      behind-later _ _ _ c.store_run-spot.ensures.filled.order c.loop-code.invariant.2 c.store_run-spot.ensures.behind,
    )

pub loop-code-preserved : goal.loop-code-preserved
loop-code-preserved c =
    let code = code-here ((goal.at.loop-code-preserved c).In-Ok-Some) c.in-LineEnd.is in
    let next = c.further-spot.ensures in
    rw (next, add-zero) (c.loop-code.invariant.0, storing-line c.loop-code.invariant.1 code, c.loop-code.invariant.2)

-- no code is left
pub returns-in_default-clause-stored : goal.returns-in_default-clause-stored
returns-in_default-clause-stored c =
    let no-code : c.in_default.field-0 ≡ None = cc in
    let none = answered-none c.args.«data».now c.loop-code.spot.at c.next_code.ensures (c.in_default.is ∙ ap Ok no-code) in
    storing-end c.loop-code.invariant.1 none

-- or the one there has bytes missing
pub returns-in_default-2-clause-stored : goal.returns-in_default-2-clause-stored
returns-in_default-2-clause-stored c =
    let missing = answered-error c.args.«data».now c.loop-code.spot.at c.next_code.ensures c.in_default.is in
    storing-truncated c.loop-code.invariant.1 missing
