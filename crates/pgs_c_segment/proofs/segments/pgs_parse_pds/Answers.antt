-- `pgs_parse_pds` passes the layer's answer on, with the numbers as cells.
-- Assumes nothing.
use Rattle.std.proofs.Common.{rules}
use Rattle.pgs_cells.specs.PdsCells.{pds_cells}
use Rattle.pgs_pds.specs.PdsBody.{pds_of, pds_verdict, entry_count, entry_rows}
use Rattle.pgs_c_segment.proofs.NumbersTold.{numbers-told}
use Rattle.pgs_c_segment.proofs.segments.pgs_parse_pds.Goals as goal

pub returns : goal.returns
returns c =
    let b = c.args.body.now in
    numbers-told pds_cells (λ y z h. search rules) (λ y z h. search rules) (λ y z h. h)
    (pds_verdict b) (entry_rows b) (pds_of b, entry_count b) c.args.entries.now _ c.args.pds.now c.args.count.now
    c.parse-answer.result c.map.result c.map-2.result c.map-3.result c.parse-answer.ensures
    c.map.ensures.cases c.told.ensures.value c.told.ensures.count_after
    c.map-2.ensures.cases c.map-3.ensures.cases c.stored.ensures.value c.stored.ensures.cell_after
