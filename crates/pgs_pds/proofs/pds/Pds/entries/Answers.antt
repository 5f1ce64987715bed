-- `entries` cuts the bytes behind the numbers into entries.
-- Assumes nothing.
use Rattle.pgs_pds.proofs.PdsLaws.{rows-cut, rows-none}
use Rattle.pgs_pds.proofs.pds.Pds.entries.Goals as goal

pub returns-in_default : goal.returns-in_default
returns-in_default c = rows-none c.args.body.now c.in_default.len_below

pub returns-in-len2-up : goal.returns-in-len2-up
returns-in-len2-up c = rows-cut c.args.body.now c.as_chunks.ensures.front
