-- `pgs_parse_pcs` passes the layer's answer on, with the numbers as cells.
-- Assumes nothing.
use Rattle.std.proofs.Common.{rules}
use Rattle.pgs_cells.specs.PcsCells.{pcs_cells}
use Rattle.pgs_pcs.specs.PcsBody.{pcs_of, pcs_verdict, placement_count, placement_rows}
use Rattle.pgs_c_segment.proofs.NumbersTold.{numbers-told}
use Rattle.pgs_c_segment.proofs.segments.pgs_parse_pcs.Goals as goal

pub returns : goal.returns
returns c =
    let b = c.args.body.now in
    numbers-told pcs_cells (λ y z h. search rules) (λ y z h. search rules) (λ y z h. h)
    (pcs_verdict b) (placement_rows b) (pcs_of b, placement_count b) c.args.placements.now _ c.args.pcs.now c.args.count.now
    c.parse-answer.result c.map.result c.map-2.result c.map-3.result c.parse-answer.ensures
    c.map.ensures.cases c.told.ensures.value c.told.ensures.count_after
    c.map-2.ensures.cases c.map-3.ensures.cases c.stored.ensures.value c.stored.ensures.cell_after
