-- `data` shows what the record's row shows. Assumes nothing.
use Rattle.std.proofs.Common.{List, ℕ, ◌≡◌, ◌∙◌, ap}
use Rattle.pgs_object_view.specs.View.{shown_by}
use Rattle.pgs_reassembly.proofs.ViewLaws.{row-data}
use Rattle.pgs_reassembly.proofs.ObjectRecord.data.Goals as goal

pub returns : goal.returns
returns c =
    let s = c.args.stream.now in
    let x = c.args.scratch.now in
    c.object_data.ensures ∙ ap (shown_by s x) c.from_record.ensures ∙ row-data s x c.args.self
