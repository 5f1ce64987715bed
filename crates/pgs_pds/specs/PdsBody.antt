-- The body of a PDS. 01, module 3: "PDS: id 1, version 1, then entries: id, Y, Cr, Cb, alpha, 1 each."
-- From US 2009/0185789, whose text is not at hand: 01 gives what is needed of it.
use Rattle.std.specs.Prelude.{ℕ, ◌-◌, ◌/◌, ◌%◌, List, [], ◌∷◌, map, length, drop, leb, eqb}
use Rattle.pgs_base.specs.Bytes.{num}
use Rattle.pgs_base.specs.Outcome.{Verdict, and_then, unless}
use Rattle.pgs_records.specs.Records.{records}
use Rattle.pgs_records.specs.declared.BodyList.{BodyList}
use Rattle.pgs_pds.specs.declared.pds.PaletteEntry.{PaletteEntry}
use Rattle.pgs_pds.specs.declared.pds.Pds.{Pds}

-- one entry, from the bytes at its start
abbrev pub entry_of : List ℕ → PaletteEntry
entry_of l = record { palette_entry_id = num 1 0 l; y = num 1 1 l; cr = num 1 2 l; cb = num 1 3 l; alpha = num 1 4 l }

abbrev pub entry_size : List ℕ → ℕ
entry_size l = 5

-- an entry as a record of a caller's list
abbrev pub entry_row : PaletteEntry → List ℕ
entry_row e = e.palette_entry_id ∷ e.y ∷ e.cr ∷ e.cb ∷ e.alpha ∷ []

-- the entries take all that follows id and version
abbrev pub entry_count : List ℕ → ℕ
entry_count b = (length b - 2) / 5

abbrev pub entries_of : List ℕ → List PaletteEntry
entries_of b = records entry_of entry_size (entry_count b) (drop 2 b)

-- the entries as a caller's list holds them
unfoldable pub entry_rows : List ℕ → List (List ℕ)
entry_rows b = map entry_row (entries_of b)

abbrev pub pds_of : List ℕ → Pds
pds_of b = record { palette_id = num 1 0 b; palette_version_number = num 1 1 b }

-- 4: "reader runs out"; 5: "PDS rest not a multiple of 5"
abbrev pub pds_verdict : List ℕ → Verdict
pds_verdict b = and_then (unless 4 (leb 2 (length b))) (unless 5 (eqb ((length b - 2) % 5) 0))

abbrev pub pds_list : List ℕ → BodyList
pds_list b = record { count = entry_count b; start = 2; len = length b - 2 }
