use Rattle.std.proofs.Common.{rules, tests}
use Rattle.std.proofs.lemmas.Iterator.Consumers.{YieldsList-from_first}
use Rattle.std.proofs.lemmas.Iterator.Search.{all_from_yields_List}
use Rattle.pgs_pcs.specs.Placements.{placements_left}
use Rattle.pgs_pcs.specs.declared.pcs.CompositionObject.{CompositionObject}
use Rattle.pgs_rendering.specs.Records.{has_record}
use Rattle.pgs_rendering.specs.Rendering.{placements_in}
use Rattle.pgs_render.specs.ListedSets.{display_set}
use Rattle.pgs_render.proofs.listed_set.ListedSet.all_present.Goals as goal

pub returns : goal.returns
returns c =
    all_from_yields_List (λ (p : CompositionObject). has_record c.args.self.records.now p.object_id) c.all.new.self _ c.all.result c.all.ensures.ran
    (YieldsList-from_first (λ x. x) placements_left {s = c.placements.result} (placements_in (display_set c.args.self)) c.placements.ensures)
    (λ x b q k. search (rules, tests))
