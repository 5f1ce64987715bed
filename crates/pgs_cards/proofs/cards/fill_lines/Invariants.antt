use Rattle.pgs_cards.proofs.FillLaws.{Writing}
use Rattle.pgs_stream.specs.Segments.{segments_left}
use Rattle.pgs_cards.proofs.cards.fill_lines.Given as goal

abbrev pub invariant-loop-segment : goal.invariant-loop-segment
invariant-loop-segment l = Writing l.s l.initial.out l.out l.card (segments_left l.segment-iterator) l.k
