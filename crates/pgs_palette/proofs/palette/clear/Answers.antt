-- `clear` stores 0 in the array that the table's front is lent as.
-- Assumes nothing.
use Rattle.pgs_palette.proofs.Calls.{lent, cleared-call}
use Rattle.pgs_palette.proofs.palette.clear.Goals as goal

pub returns : goal.returns
returns c = cleared-call (lent c.args.table.now c.first_chunk_mut.ensures.cases c.in_ok-front.ensures.ok_part) (c.fill.ensures.after (λ y e. e))
