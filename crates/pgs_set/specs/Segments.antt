-- The segments of a display set with their places, as a walk over them gives them.
use Rattle.std.specs.Prelude.{ℕ, List, [], Option, None, Some}
use Rattle.pgs_stream.specs.Stream.{records_from}
use Rattle.pgs_set.specs.Sets.{through_end}
use Rattle.pgs_set.specs.Walks.{pieces_at}
use Rattle.pgs_set.specs.declared.open_set.OpenSet.{OpenSet}
use Rattle.pgs_stream.specs.Segments.{placed}
use Rattle.pgs_stream.specs.declared.segments.PlacedSegment.{PlacedSegment}
use Rattle.pgs_set.specs.declared.segments.SetSegments.{SetSegments}

-- the segments of the set that is open at a place
abbrev pub set_segments : List ℕ → ℕ → List PlacedSegment
set_segments s at = records_from placed at (through_end (pieces_at s at))

-- those of a set, or none
abbrev pub rest_of : Option OpenSet → List PlacedSegment
rest_of None = []
rest_of (Some o) = set_segments o.stream.now o.from

-- the segments that are still to come
abbrev pub set_segments_left : SetSegments → List PlacedSegment
set_segments_left it = rest_of it.left
