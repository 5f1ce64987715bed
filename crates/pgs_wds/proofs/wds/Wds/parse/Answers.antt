-- `Wds::parse` delivers the windows behind the count.
-- Assumes nothing.
use Rattle.pgs_wds.proofs.WdsLaws.{window-list}
use Rattle.pgs_wds.proofs.wds.Wds.parse.Goals as goal

pub returns : goal.returns
returns c = rw (window-list c.args.body.now) c.read_counted.ensures
