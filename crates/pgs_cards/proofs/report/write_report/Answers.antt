-- `write_report` writes one of three texts. Assumes nothing.
use Rattle.pgs_base.proofs.Outcomes.{gave, turned_down}
use Rattle.pgs_reassembly.specs.Objects.{all_objects_verdict}
use Rattle.pgs_set.specs.Sets.{set_count}
use Rattle.pgs_cards.proofs.ReportLaws.{says-too-long, says-refusal, says-cards, text-is}
use Rattle.pgs_cards.proofs.report.write_report.Goals as goal

pub returns-then-s-gt-INPUT_LIMIT : goal.returns-then-s-gt-INPUT_LIMIT
returns-then-s-gt-INPUT_LIMIT c = text-is (says-too-long c.args.s.now c.if-s-gt-INPUT_LIMIT.true) c.put_text.ensures

pub returns-in-Err : goal.returns-in-Err
returns-in-Err c =
    let s = c.args.s.now in
    text-is (says-refusal s c.if-s-gt-INPUT_LIMIT.false (turned_down (all_objects_verdict s) (set_count s) c.in-Err.ensures)) c.put_refusal.ensures

pub returns-in-Ok : goal.returns-in-Ok
returns-in-Ok c =
    let s = c.args.s.now in
    text-is (says-cards s c.if-s-gt-INPUT_LIMIT.false (gave (all_objects_verdict s) (set_count s) c.in-Ok.ensures)) c.put_lines.ensures
