-- The head of a segment. 01, module 2: "`SegmentHeader::parse`: mark 50 47, PTS 4 bytes, DTS 4, kind 1, body size 2."
-- From US 2009/0185789, whose text is not at hand: 01 gives what is needed of it.
use Rattle.std.specs.Prelude.{ℕ, Bool, false, List, length, get_or, leb, eqb}
use Rattle.pgs_base.specs.Bytes.{num}
use Rattle.pgs_base.specs.Outcome.{Verdict, Outcome, outcome_of, and_then, unless, pick}
use Rattle.pgs_segment.specs.declared.header.SegmentHeader.{SegmentHeader}

-- PTS, DTS, the kind's byte and the body size
abbrev pub pts_of : List ℕ → ℕ
pts_of l = num 4 2 l

abbrev pub dts_of : List ℕ → ℕ
dts_of l = num 4 6 l

abbrev pub kind_of : List ℕ → ℕ
kind_of l = num 1 10 l

abbrev pub size_of : List ℕ → ℕ
size_of l = num 2 11 l

-- whether the first two bytes are 50 47
abbrev pub marked : List ℕ → Bool
marked l = pick (eqb (get_or l 0 0) 0x50) (eqb (get_or l 1 0) 0x47) false

-- 1: "under 13 bytes"; 2: "not 50 47"
abbrev pub header_verdict : List ℕ → Verdict
header_verdict l = and_then (unless 1 (leb 13 (length l))) (unless 2 (marked l))

abbrev pub header_fields : List ℕ → SegmentHeader
header_fields l = record { pts = pts_of l; dts = dts_of l; segment_type = kind_of l; segment_size = size_of l }

abbrev pub header_of : List ℕ → Outcome SegmentHeader
header_of l = outcome_of (header_verdict l) (header_fields l)
