-- `encode_pds` writes a body with a list.
-- Assumes nothing.
use Rattle.std.proofs.Common.{rules, sym, ◌∙◌, arith}
use Rattle.pgs_views.specs.declared.segment_type.SegmentType.TheVariants as kinds
use Rattle.pgs_writer_base.specs.Bodies.{segment_bytes}
use Rattle.pgs_writer_base.proofs.WriteKinds.{pds-answer, pds_body, pds-many, pds-few, pds-length}
use Rattle.pgs_writer_base.proofs.WriteLaws.{TimesFit, write-35, write-34}
use mir.Syntax.{w8}
use mir.Val.{Fits}
use Rattle.pgs_writer_lists.proofs.pds.encode_pds.Goals.{Start}
use Rattle.pgs_writer_lists.proofs.pds.encode_pds.Goals as goal

-- the times and the numbers fit their types
times_fit : (c : Start) → TimesFit c.args.times
times_fit c = search rules

id-byte : (c : Start) → Fits w8 c.args.pds.palette_id
id-byte c = search rules

version-byte : (c : Start) → Fits w8 c.args.pds.palette_version_number
version-byte c = search rules

pub returns-then-entries-gt-MOST : goal.returns-then-entries-gt-MOST
returns-then-entries-gt-MOST c =
    let s = (goal.at.returns-then-entries-gt-MOST c).Start in
    let rows = c.args.entries.now in
    pds-answer c.args.times c.args.pds rows (times_fit s) (id-byte s).fits (version-byte s).fits
    (write-35 (segment_bytes c.args.times kinds.Pds (pds_body c.args.times c.args.pds rows)) c.args.out.now
    (pds-many c.args.times c.args.pds rows c.if-entries-gt-MOST.true))

pub returns-then-rows_fit : goal.returns-then-rows_fit
returns-then-rows_fit c =
    let s = (goal.at.returns-then-rows_fit c).Start in
    let rows = c.args.entries.now in
    pds-answer c.args.times c.args.pds rows (times_fit s) (id-byte s).fits (version-byte s).fits
    (write-34 (segment_bytes c.args.times kinds.Pds (pds_body c.args.times c.args.pds rows)) c.args.out.now
    (pds-few c.args.times c.args.pds rows c.if-entries-gt-MOST.false (sym c.rows_fit.ensures ∙ c.if-rows_fit.true))
    (omega (arith, c.if-out-total.true, pds-length c.args.times c.args.pds rows)))

pub returns : goal.returns
returns c =
    let s = (goal.at.returns c).Start in
    pds-answer c.args.times c.args.pds c.args.entries.now (times_fit s) (id-byte s).fits (version-byte s).fits c.encode_list.ensures
