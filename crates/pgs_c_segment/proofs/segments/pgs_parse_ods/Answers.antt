-- `pgs_parse_ods` passes the layer's answer on, with the numbers as cells.
-- Assumes nothing.
use Rattle.pgs_c_told.proofs.ToldLaws.{told-mapped}
use Rattle.pgs_cells_ods.specs.OdsCells.{ods_cells}
use Rattle.pgs_ods.specs.declared.ods.Ods.{Ods}
use Rattle.pgs_ods.specs.OdsBody.{ods_of, ods_verdict, ods_list}
use Rattle.pgs_records.specs.declared.BodyList.{BodyList}
use Rattle.pgs_c_segment.proofs.segments.pgs_parse_ods.Goals as goal

pub returns : goal.returns
returns c =
    let b = c.args.body.now in
    let t = told-mapped (λ (p : Ods × BodyList). ods_cells p.0 p.1) (λ y z h. h) (ods_verdict b) (ods_of b, ods_list b) c.parse.result c.map.result c.args.ods.now
    c.parse.ensures c.map.ensures.cases c.stored.ensures.value c.stored.ensures.cell_after in
    record { code = t.0; numbers = t.1 }
