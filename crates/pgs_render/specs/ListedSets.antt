-- A display set whose objects are listed, and its objects. Private contracts cite these; that of `render` cites `Rendering`.
use Rattle.std.specs.Prelude.{List}
use Rattle.pgs_reassembly.specs.Objects.{Chain}
use Rattle.pgs_rendering.specs.Steps.{objects_in}
use Rattle.pgs_set.specs.Sets.{DisplaySet}
use Rattle.pgs_set.specs.Walks.{set_at}
use Rattle.pgs_render.specs.declared.listed_set.ListedSet.{ListedSet}

abbrev pub display_set : ListedSet → DisplaySet
display_set listed = set_at listed.set.stream.now listed.set.place

abbrev pub its_objects : ListedSet → List Chain
its_objects listed = objects_in (display_set listed)
