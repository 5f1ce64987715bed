-- `get` looks up the colour in the table's front.
-- Assumes nothing.
use Rattle.std.proofs.Common.{◌∙◌, ap}
use Rattle.pgs_base.specs.Outcome.{outcome_of}
use Rattle.pgs_palette.specs.Table.{pixel_at}
use Rattle.pgs_palette.proofs.Laying.{front-pixel}
use Rattle.pgs_palette.proofs.palette.get.Goals as goal

pub returns : goal.returns
returns c =
    let table = c.args.table.now in
    let color = c.color.ensures ∙ ap (λ t. pixel_at t c.args.index) c.in_ok-new.ensures.bytes ∙ front-pixel table c.args.index c.ranges.index.fits in
    λ i. outcome_of (c.in_ok-new.ensures.verdict i) (color i)
