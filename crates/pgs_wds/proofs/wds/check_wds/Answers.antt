-- `check_wds` tests the windows as every list behind its count.
-- Assumes nothing.
use mathlib.Core.Path.{◌∙◌}
use Rattle.pgs_wds.proofs.WdsLaws.{windows-listed}
use Rattle.pgs_wds.proofs.wds.check_wds.Goals as goal

pub returns : goal.returns
returns c = c.check_counted.ensures ∙ windows-listed c.args.body.now
