-- `fill_hex` goes from the last digit to the first: the loop keeps `Filling`.
-- Assumes nothing.
use Rattle.pgs_cards.proofs.HexLaws.{Filling}
use Rattle.pgs_cards.proofs.line.fill_hex.Given as goal

abbrev pub invariant-loop-i : goal.invariant-loop-i
invariant-loop-i l = Filling l.initial.out l.out l.n l.i l.left
