-- A stream of segments. 01, module 4: "The stream answer is a count and a caller's list of segment records, filled from the front
-- (place, PTS, DTS, kind, body length). An empty stream has none."
use Rattle.std.specs.Prelude.{ℕ, zero, suc, ◌+◌, ◌≡◌, List, [], ◌∷◌, ◌++◌, map, length, take, drop, get_or, ltb}
use Rattle.pgs_base.specs.Outcome.{Verdict, accepted, and_then, unless, pick, is_accepted}
use Rattle.pgs_segment.specs.Fields.{SegmentFields}
use Rattle.pgs_segment.specs.Header.{header_fields}
use Rattle.pgs_segment.specs.OneSegment.{segment_verdict, used_by, body_at, fields_of}
use Rattle.pgs_segment.specs.declared.header.SegmentHeader.{SegmentHeader}

-- a stream that was read from the front: the bytes of each segment, tail included, and the rest, which is empty or begins with a
-- segment that is refused
pub record Reading : Type 0 where
  pub pieces : List (List ℕ)
  pub rest : List ℕ

-- one segment at the front of what is left. 7: "a segment used 0 bytes"
abbrev pub step_verdict : List ℕ → Verdict
step_verdict l = and_then (segment_verdict l) (unless 7 (ltb 0 (used_by l)))

-- a segment before the others
abbrev pub before : List ℕ → Reading → Reading
before x r = record { pieces = x ∷ r.pieces; rest = r.rest }

-- at most n segments
abbrev pub read_first : ℕ → List ℕ → Reading
read_first zero l = record { pieces = []; rest = l }
read_first (suc n) l =
    pick (is_accepted (step_verdict l)) (before (take (used_by l) l) (read_first n (drop (used_by l) l))) (record { pieces = []; rest = l })

-- all of them: a stream has no more segments than bytes
unfoldable pub read_of : List ℕ → Reading
read_of s = read_first (length s) s

-- what stopped the reading: the end, or the number of the refused segment there
abbrev pub stopped_by : List ℕ → Verdict
stopped_by [] = accepted
stopped_by (b ∷ bs) = step_verdict (b ∷ bs)

-- a stream is accepted when the end stopped the reading
abbrev pub stream_verdict : List ℕ → Verdict
stream_verdict s = stopped_by (read_of s).rest

abbrev pub segment_count : List ℕ → ℕ
segment_count s = length (read_of s).pieces

-- the fields of all segments
abbrev pub stream_fields : List ℕ → List SegmentFields
stream_fields s = map fields_of (read_of s).pieces

-- segments end to end
abbrev pub joined : List (List ℕ) → List ℕ
joined [] = []
joined (x ∷ xs) = x ++ joined xs

-- the record of a segment with this head at a place
abbrev pub head_row : ℕ → SegmentHeader → List ℕ
head_row at h = at ∷ h.pts ∷ h.dts ∷ h.segment_type ∷ h.segment_size ∷ []

-- the record of a segment at a place
abbrev pub segment_row : ℕ → List ℕ → List ℕ
segment_row at x = head_row at (header_fields x)

-- the records of segments that stand one after another from a place on, where `made` is the record of a segment with a head at a place
abbrev pub records_from : {A : Type 0} → (ℕ → SegmentHeader → A) → ℕ → List (List ℕ) → List A
records_from made at [] = []
records_from made at (x ∷ xs) = made at (header_fields x) ∷ records_from made (at + length x) xs

-- the records of all segments of a stream
unfoldable pub records_of : {A : Type 0} → (ℕ → SegmentHeader → A) → List ℕ → List A
records_of made s = records_from made 0 (read_of s).pieces

-- as rows of cells
abbrev pub segment_rows : List ℕ → List (List ℕ)
segment_rows s = records_of head_row s

-- the body that a row names, by its place and its length
abbrev pub body_by_row : List ℕ → List ℕ → List ℕ
body_by_row s r = take (get_or r 4 0) (drop (get_or r 0 0 + 13) s)

-- "place .. body length": the row of each segment leads to its body. `proofs/ReadingLaws.antt` has the proof
abbrev pub RowsLead : Type 0
RowsLead = (s : List ℕ) → map (body_by_row s) (segment_rows s) ≡ map body_at (read_of s).pieces
