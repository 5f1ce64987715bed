-- One segment at the front of a list of bytes. 01: "Segments are tested 1, 2, 3, then their body."
use Rattle.std.specs.Prelude.{ℕ, ◌+◌, List, length, take, drop, leb}
use Rattle.pgs_base.specs.Outcome.{Verdict, and_then, unless}
use Rattle.pgs_segment.specs.Fields.{SegmentFields, body_verdict, body_of, body_list, numbers_of}
use Rattle.pgs_segment.specs.Header.{pts_of, dts_of, kind_of, size_of, header_verdict, header_fields}
use Rattle.pgs_views.specs.Kinds.{type_of}
use Rattle.pgs_views.specs.declared.segment_type.SegmentType.{SegmentType}
use Rattle.pgs_segment.specs.declared.segment.Frame.{Frame}
use Rattle.pgs_segment.specs.declared.segment.Segment as declared-segment

-- the segment's kind
abbrev pub segment_type : List ℕ → SegmentType
segment_type l = type_of (kind_of l)

-- how many bytes the segment takes: its head, and its body, tail included
abbrev pub used_by : List ℕ → ℕ
used_by l = 13 + size_of l

-- its body
abbrev pub body_at : List ℕ → List ℕ
body_at l = take (size_of l) (drop 13 l)

-- 3: "body exceeds input"
abbrev pub segment_verdict : List ℕ → Verdict
segment_verdict l =
    and_then (header_verdict l) (and_then (unless 3 (leb (used_by l) (length l))) (body_verdict (segment_type l) (body_at l)))

-- the fields of an accepted segment
abbrev pub fields_of : List ℕ → SegmentFields
fields_of l = record { pts = pts_of l; dts = dts_of l; body = body_of (segment_type l) (body_at l) }

-- its head, and where its list or its data stands
abbrev pub frame_of : List ℕ → Frame
frame_of l = record { header = header_fields l; list = body_list (segment_type l) (body_at l) }

-- the answer of `Segment::parse`
abbrev pub segment_of : List ℕ → declared-segment.Segment
segment_of l =
    record {
      header = header_fields l;
      body = numbers_of (fields_of l).body;
      list = body_list (segment_type l) (body_at l);
      used = used_by l;
    }
