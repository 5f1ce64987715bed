-- The records of a stream's display sets, as a walk over them gives them.
use Rattle.std.specs.Prelude.{ℕ, ◌≡◌, List, [], ◌∷◌, map}
use Rattle.pgs_set.specs.Sets.{set_record, set_rows, sets_from, sets_of}
use Rattle.pgs_set.specs.Walks.{pieces_at}
use Rattle.pgs_set.specs.declared.display_sets.SetRecords.{SetRecords}
use Rattle.pgs_set.specs.declared.set.SetRecord.{SetRecord}

-- the records of the sets of a stream
abbrev pub set_records : List ℕ → List SetRecord
set_records s = map set_record (sets_of s)

-- a record as a row of cells
abbrev pub record_row : SetRecord → List ℕ
record_row r = r.place ∷ r.end ∷ r.pts ∷ []

-- "Set records (place of PCS, place just after END, PTS of the PCS) fill a caller's list": the rows of the records are those of the
-- sets. `proofs/RecordLaws.antt` has the proof
abbrev pub RowsOfRecords : Type 0
RowsOfRecords = (s : List ℕ) → map record_row (set_records s) ≡ set_rows s

-- the records that are still to come
abbrev pub records_left : SetRecords → List SetRecord
records_left it = map set_record (sets_from it.at (pieces_at it.stream.now it.at))
