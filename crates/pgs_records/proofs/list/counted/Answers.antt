-- `counted` gives the byte and what stands behind it.
-- Assumes nothing.
use Rattle.pgs_records.proofs.RecordLaws.{counted-rest, counted-number}
use mathlib.Core.Path.{◌∙◌}
use Rattle.pgs_records.proofs.list.counted.Goals as goal

pub returns-in-Some-len1-up-clause-parts : goal.returns-in-Some-len1-up-clause-parts
returns-in-Some-len1-up-clause-parts c =
    let part = c.in-Some-len1-up.ensures.lookup.0.2 in
    (c.from.ensures ∙ counted-number c.args.at c.args.body.now part c.in-Some-len1-up.len_at_least, counted-rest c.args.at c.args.body.now part)
