-- The placements of a PCS body one after another.
use Rattle.std.specs.Prelude.{List}
use Rattle.pgs_records.specs.Records.{records}
use Rattle.pgs_pcs.specs.PcsBody.{placement_of, placement_size}
use Rattle.pgs_pcs.specs.declared.pcs.CompositionObject.{CompositionObject}
use Rattle.pgs_pcs.specs.declared.placements.Placements.{Placements}

-- those that are left
abbrev pub placements_left : Placements → List CompositionObject
placements_left p = records placement_of placement_size p.count p.rest.now
