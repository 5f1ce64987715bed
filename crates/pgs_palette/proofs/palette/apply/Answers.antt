-- `apply` lays the entries over the array that the table's front is lent as, or leaves it.
-- Assumes nothing.
use Rattle.pgs_palette.proofs.Calls.{lent, laid-call, kept-call}
use Rattle.pgs_palette.proofs.palette.apply.Goals as goal

pub returns-then-palette_id-named : goal.returns-then-palette_id-named
returns-then-palette_id-named c =
    laid-call (lent c.args.table.now c.first_chunk_mut.ensures.cases c.in_ok-front.ensures.ok_part) _ _ _ c.if-palette_id-named.true c.lay.ensures

pub returns-else-palette_id-named : goal.returns-else-palette_id-named
returns-else-palette_id-named c =
    kept-call (lent c.args.table.now c.first_chunk_mut.ensures.cases c.in_ok-front.ensures.ok_part) _ _ _ c.if-palette_id-named.false
