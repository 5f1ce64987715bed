-- `fill_hex` goes from the last digit to the first: the loop keeps `Filling`.
-- Assumes nothing.
use Rattle.pgs_cards.proofs.HexLaws.{fills-on, filled-all}
use Rattle.pgs_cards.proofs.line.fill_hex.Goals as goal

pub loop-i-preserved : goal.loop-i-preserved
loop-i-preserved c = fills-on c.loop-i.invariant c.loop-i-test.true c.digit.ensures

pub returns : goal.returns
returns c = filled-all c.loop-i.invariant c.loop-i-test.false
