use Rattle.pgs_cards.proofs.LineLaws.{line-written}
use Rattle.pgs_cards.proofs.line.put_line.Goals as goal

pub returns : goal.returns
returns c =
    line-written c.args.card c.args.out.now c.requires c.put_hex.ensures (rw c.from.ensures at c.put_hex-2.ensures)
    (rw c.from-2.ensures at c.put_hex-3.ensures) (rw c.from-3.ensures at c.put_hex-4.ensures) (rw c.from-4.ensures at c.put_hex-5.ensures)
    c.put_hex-6.ensures (rw c.from-5.ensures at c.put_hex-7.ensures) (rw c.from-6.ensures at c.put_hex-8.ensures)
