-- The calls that read a stream or a body: `pgs_parse_segments`, `pgs_parse_pcs`, `pgs_parse_wds`, `pgs_parse_pds`, `pgs_parse_ods`.
-- Each parameter that a call may change is named as it was, and with a prime as it is.
use Rattle.std.specs.Prelude.{ℕ, ◌≡◌, List}
use Rattle.pgs_calls.specs.Calls.{code_of, becomes, ListCall, NumbersCall}
use Rattle.pgs_cells_ods.specs.OdsCells.{ods_cells}
use Rattle.pgs_cells.specs.PcsCells.{pcs_cells}
use Rattle.pgs_cells.specs.PdsCells.{pds_cells}
use Rattle.pgs_ods.specs.OdsBody.{ods_of, ods_verdict, ods_list}
use Rattle.pgs_pcs.specs.PcsBody.{pcs_of, pcs_verdict, placement_count, placement_rows}
use Rattle.pgs_pds.specs.PdsBody.{pds_of, pds_verdict, entry_count, entry_rows}
use Rattle.pgs_stream.specs.Stream.{stream_verdict, segment_count, segment_rows}
use Rattle.pgs_wds.specs.WdsBody.{wds_verdict, window_count, window_rows}

-- the stream: its records, and how many
abbrev pub SegmentsCall : List ℕ → List (List ℕ) → List (List ℕ) → ℕ → ℕ → ℕ → Type 0
SegmentsCall s list list' count count' r = ListCall (stream_verdict s) (segment_rows s) list list' (segment_count s) count count' r

-- a WDS body: its windows, and how many
abbrev pub WdsCall : List ℕ → List (List ℕ) → List (List ℕ) → ℕ → ℕ → ℕ → Type 0
WdsCall b list list' count count' r = ListCall (wds_verdict b) (window_rows b) list list' (window_count b) count count' r

-- a PCS body: its numbers, its placements, and how many
abbrev pub PcsCall : List ℕ → List ℕ → List ℕ → List (List ℕ) → List (List ℕ) → ℕ → ℕ → ℕ → Type 0
PcsCall b pcs pcs' list list' count count' r =
    NumbersCall (pcs_verdict b) (placement_rows b) list list' (pcs_cells (pcs_of b)) pcs pcs' (placement_count b) count count' r

-- a PDS body: its numbers, its entries, and how many
abbrev pub PdsCall : List ℕ → List ℕ → List ℕ → List (List ℕ) → List (List ℕ) → ℕ → ℕ → ℕ → Type 0
PdsCall b pds pds' list list' count count' r =
    NumbersCall (pds_verdict b) (entry_rows b) list list' (pds_cells (pds_of b)) pds pds' (entry_count b) count count' r

-- an ODS body: its numbers and where its data stands
pub record OdsCall (b ods ods' : List ℕ) (r : ℕ) : Type 0 where
  pub code : r ≡ code_of (ods_verdict b)
  pub numbers : ods' ≡ becomes (ods_verdict b) (ods_cells (ods_of b) (ods_list b)) ods
