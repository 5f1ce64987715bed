-- `check_rle` meets its contract. The loop's invariant: reading on from this place comes to the same, with the width not tested yet, and the
-- pixels of the line are not many for the bytes that were read. The measure is what is left of the data. Assumes nothing.
use mathlib.Core.Path.{◌≡◌, ◌∙◌, sym}
use native.Mathlib.Omega.{arith}
use lib.ListN.{drop}
use Rattle.std.proofs.Common.{rules}
use Rattle.std.specs.Prelude.{Ok, Err}
use Rattle.pgs_base.proofs.Outcomes.{passed_verdict}
use Rattle.pgs_run_length.specs.RunLength.{line_end, found, code_of}
use Rattle.pgs_run_length.proofs.OneCode.{code-escape, escape-line-end}
use Rattle.pgs_run_length.proofs.LiteralBytes.{literals-left}
use Rattle.pgs_bitmap_check.specs.Bitmap.{reading_of}
use Rattle.pgs_bitmap_check.specs.Progress.{Reached}
use Rattle.pgs_bitmap_check.proofs.BitmapSteps.{reached-step, ended-stepped}
use Rattle.pgs_bitmap_check.proofs.UntestedWidth.{untested-reached, reached-tested}
use Rattle.pgs_bitmap_check.proofs.LiteralStretch.{untested-literals}
use Rattle.pgs_bitmap_check.proofs.bitmap.check_rle.Goals.{Else-width-place}
use Rattle.pgs_bitmap_check.proofs.bitmap.check_rle.Goals as goal

-- where a line ends, with no more pixels than the width
here : (c : Else-width-place)
    → Reached c.args.«data».now c.args.size c.loop-place.place (reading_of c.args.«data».now c.args.size.width c.args.size.height).verdict
here c = reached-tested c.loop-place.invariant.0 (omega arith)

line-end-here : (c : Else-width-place) → code_of (drop c.loop-place.place.at c.args.«data».now) ≡ found line_end 2
line-end-here c =
    let l = c.args.«data».now in
    let at = c.loop-place.place.at in
    code-escape l at (omega arith) (search rules)
    ∙ sym (escape-line-end l at (omega arith) (search rules))

pub loop-place-preserved : goal.loop-place-preserved
loop-place-preserved c =
    let next = c.further-place.ensures in
    let n = c.literals_in-n.ensures in
    rw next (
      untested-literals _ c.loop-place.invariant.0 (literals-left c.args.«data».now c.loop-place.place.at _ n.3) (omega (arith, n.1)),
      omega (arith, c.loop-place.invariant.1, n.0),
    )

pub loop-place-preserved-in-0-default : goal.loop-place-preserved-in-0-default
loop-place-preserved-in-0-default c =
    let run = c.run_at-place.ensures in
    (run.2.leads _ _ c.loop-place.invariant.0, omega (arith, run.0, run.1, c.loop-place.invariant.1))

pub returns-in_err-place-in-0-eq0-2 : goal.returns-in_err-place-in-0-eq0-2
returns-in_err-place-in-0-eq0-2 c =
    let at = (goal.at.returns-in_err-place-in-0-eq0-2 c).Else-width-place in
    passed_verdict c.from_residual.result _ c.from_residual.ensures.1
    ∙ ended-stepped (here at).inside (Err c.in_err-place-in-0-eq0-2.field-0.0) (line-end-here at) c.in_err-place-in-0-eq0-2.ensures
    ∙ (here at).same

pub loop-place-preserved-in_ok-place-in-0-eq0-2 : goal.loop-place-preserved-in_ok-place-in-0-eq0-2
loop-place-preserved-in_ok-place-in-0-eq0-2 c =
    let at = (goal.at.loop-place-preserved-in_ok-place-in-0-eq0-2 c).Else-width-place in
    let step = ended-stepped (here at).inside (Ok c.in_ok-place-in-0-eq0-2.place) (line-end-here at) c.in_ok-place-in-0-eq0-2.ensures in
    (untested-reached (reached-step c.loop-place.place (here at).same step.1), omega (arith, step.0, step.1.inside.narrow))
