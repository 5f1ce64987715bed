-- The segments of a stream with their places, as an iterator gives them.
use Rattle.std.specs.Prelude.{ℕ, ◌+◌, List, drop}
use Rattle.pgs_segment.specs.declared.header.SegmentHeader.{SegmentHeader}
use Rattle.pgs_stream.specs.Stream.{read_of, records_from}
use Rattle.pgs_stream.specs.declared.segments.PlacedSegment.{PlacedSegment}
use Rattle.pgs_stream.specs.declared.segments.Segments.{Segments}

-- the segment with this head at a place
abbrev pub placed : ℕ → SegmentHeader → PlacedSegment
placed at h = record { at = at; header = h; end = at + (13 + h.segment_size) }

-- the record of a segment, where `made` is that of a segment with a head at a place; and the reverse
abbrev pub placed_record : {A : Type 0} → (ℕ → SegmentHeader → A) → PlacedSegment → A
placed_record made p = made p.at p.header

abbrev pub of_placed : {A : Type 0} → (PlacedSegment → A) → ℕ → SegmentHeader → A
of_placed made at h = made (placed at h)

-- the segments of a stream from a place on
abbrev pub segments_from : List ℕ → ℕ → List PlacedSegment
segments_from s at = records_from placed at (read_of (drop at s)).pieces

-- what an iterator has left
abbrev pub segments_left : Segments → List PlacedSegment
segments_left it = segments_from it.stream.now it.at
