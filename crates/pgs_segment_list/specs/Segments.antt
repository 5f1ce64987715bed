-- The records of a stream's segments as structs. 01, module 4: "The stream answer is a count and a caller's list of segment records,
-- filled from the front (place, PTS, DTS, kind, body length)." They are the rows of `segment_rows`: a place, and a head of the other cells.
use Rattle.std.specs.Prelude.{ℕ, List, map, get_or}
use Rattle.pgs_segment.specs.declared.header.SegmentHeader.{SegmentHeader}
use Rattle.pgs_stream.specs.Stream.{head_row, segment_rows}
use Rattle.pgs_segment_list.specs.declared.SegmentRecord.{SegmentRecord}

-- the record of a row of cells
abbrev pub record_of : List ℕ → SegmentRecord
record_of row =
    record {
      place = get_or row 0 0;
      header = record { pts = get_or row 1 0; dts = get_or row 2 0; segment_type = get_or row 3 0; segment_size = get_or row 4 0 };
    }

-- the record of a segment with this head at a place
abbrev pub record_at : ℕ → SegmentHeader → SegmentRecord
record_at at h = record_of (head_row at h)

-- the records of a stream's segments
unfoldable pub segment_records : List ℕ → List SegmentRecord
segment_records s = map record_of (segment_rows s)
