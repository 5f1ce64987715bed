-- Display sets. The mission: "A display set is the run of segments from a PCS to its END." 01, module 6: "Set records (place of PCS,
-- place just after END, PTS of the PCS) fill a caller's list", and "reads the whole stream first, so 1 to 7 anywhere come before 8 to
-- 15".
use Rattle.std.specs.Prelude.{ℕ, ◌+◌, true, false, List, [], ◌∷◌, map, length, get_or, ltb}
use Rattle.pgs_base.specs.Outcome.{Verdict, accepted, refused, and_then, unless, pick}
use Rattle.pgs_segment.specs.Header.{pts_of}
use Rattle.pgs_segment.specs.OneSegment.{segment_type}
use Rattle.pgs_stream.specs.Stream.{read_of, stream_verdict}
pub use Rattle.pgs_views.specs.Kinds.{is_pcs, is_end}
use Rattle.pgs_views.specs.declared.segment_type.SegmentType.{SegmentType}
use Rattle.pgs_views.specs.declared.segment_type.SegmentType.TheVariants.{Pds, Ods, Pcs, Wds, End, Other}
use Rattle.pgs_set.specs.declared.grouping.Grouping.{Grouping}
use Rattle.pgs_set.specs.declared.grouping.Grouping.TheVariants.{Outside, Inside}
use Rattle.pgs_set.specs.declared.set.SetRecord.{SetRecord}

-- 8: "PCS in an open set"; 9, 10, 11: WDS, PDS, ODS and "no open set"; 12: "set has one"; 13: END and "no open set"; 14: "unknown
-- kind, no open set". An open set is known by whether it has a WDS
abbrev pub kind_verdict : Grouping → SegmentType → Verdict
kind_verdict Outside Pcs = accepted
kind_verdict Outside Wds = refused 9
kind_verdict Outside Pds = refused 10
kind_verdict Outside Ods = refused 11
kind_verdict Outside End = refused 13
kind_verdict Outside (Other v) = refused 14
kind_verdict (Inside w) Pcs = refused 8
kind_verdict (Inside w) Wds = pick w (refused 12) accepted
kind_verdict (Inside w) Pds = accepted
kind_verdict (Inside w) Ods = accepted
kind_verdict (Inside w) End = accepted
kind_verdict (Inside w) (Other v) = accepted

-- a PCS opens a set, its WDS is remembered, an END closes it
abbrev pub state_after : Grouping → SegmentType → Grouping
state_after g Pcs = Inside false
state_after g Wds = Inside true
state_after g End = Outside
state_after g Pds = g
state_after g Ods = g
state_after g (Other v) = g

-- the first segment that is refused decides. 15: "stream ends in a set"
abbrev pub group_verdict : Grouping → List (List ℕ) → Verdict
group_verdict Outside [] = accepted
group_verdict (Inside w) [] = refused 15
group_verdict g (x ∷ xs) = and_then (kind_verdict g (segment_type x)) (group_verdict (state_after g (segment_type x)) xs)

-- a display set: its PCS with its place in the stream, and the segments after it, its END the last
pub record DisplaySet : Type 0 where
  pub place : ℕ
  pub opening : List ℕ
  pub others : List (List ℕ)

-- the segments up to the first END, that one included
abbrev pub through_end : List (List ℕ) → List (List ℕ)
through_end [] = []
through_end (x ∷ xs) = x ∷ pick (is_end (segment_type x)) [] (through_end xs)

-- a set for each PCS among the segments that stand one after another from a place on
abbrev pub sets_from : ℕ → List (List ℕ) → List DisplaySet
sets_from at [] = []
sets_from at (x ∷ xs) =
    pick (is_pcs (segment_type x)) (record { place = at; opening = x; others = through_end xs } ∷ sets_from (at + length x) xs)
    (sets_from (at + length x) xs)

-- how many sets a segment opens
abbrev pub opens : SegmentType → ℕ
opens k = pick (is_pcs k) 1 0

-- the sets of a stream
unfoldable pub sets_of : List ℕ → List DisplaySet
sets_of s = sets_from 0 (read_of s).pieces

abbrev pub set_count : List ℕ → ℕ
set_count s = length (sets_of s)

-- whether the stream is accepted and its segments make up sets
abbrev pub sets_verdict : List ℕ → Verdict
sets_verdict s = and_then (stream_verdict s) (group_verdict Outside (read_of s).pieces)

abbrev pub no_set : DisplaySet
no_set = record { place = 0; opening = []; others = [] }

-- the set of this number, from 0
abbrev pub set_number : ℕ → List ℕ → DisplaySet
set_number k s = get_or (sets_of s) k no_set

-- whether there is one: 1 to 15, then 36: "set number at or past the count"
abbrev pub set_verdict : ℕ → List ℕ → Verdict
set_verdict k s = and_then (sets_verdict s) (unless 36 (ltb k (set_count s)))

-- how many bytes segments take
abbrev pub bytes_in : List (List ℕ) → ℕ
bytes_in [] = 0
bytes_in (x ∷ xs) = length x + bytes_in xs

-- the place just after the END
abbrev pub end_of : DisplaySet → ℕ
end_of d = d.place + length d.opening + bytes_in d.others

-- the record of a set, and as a row of a caller's list
abbrev pub set_record : DisplaySet → SetRecord
set_record d = record { place = d.place; end = end_of d; pts = pts_of d.opening }

abbrev pub set_row : DisplaySet → List ℕ
set_row d = d.place ∷ end_of d ∷ pts_of d.opening ∷ []

abbrev pub set_rows : List ℕ → List (List ℕ)
set_rows s = map set_row (sets_of s)
