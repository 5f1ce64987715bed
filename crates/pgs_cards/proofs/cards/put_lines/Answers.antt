use Rattle.pgs_base.proofs.Outcomes.{delivers-short, delivers-all}
use Rattle.pgs_cards.proofs.LineLaws.{card-lines-length}
use Rattle.pgs_cards.proofs.RoomLaws.{sets-room}
use mathlib.Core.Path.{refl}
use native.Mathlib.Omega.{arith}
use Rattle.pgs_cards.proofs.cards.put_lines.Goals as goal

pub overflow_mul-need : goal.overflow_mul-need
overflow_mul-need c = omega (arith, sets-room c.args.sets.stream.now c.args.sets.verdict, c.args.sets.counted)

pub returns-then-out-need : goal.returns-then-out-need
returns-then-out-need c = delivers-short refl (omega (arith, card-lines-length c.args.sets.stream.now, c.args.sets.counted, c.if-out-need.true))

pub fill_lines-requires : goal.fill_lines-requires
fill_lines-requires c = omega (arith, card-lines-length c.args.sets.stream.now, c.args.sets.counted, c.if-out-need.false)

pub returns : goal.returns
returns c =
    delivers-all refl (omega (arith, card-lines-length c.args.sets.stream.now, c.args.sets.counted, c.if-out-need.false))
    (omega (arith, card-lines-length c.args.sets.stream.now, c.args.sets.counted)) c.fill_lines.ensures
