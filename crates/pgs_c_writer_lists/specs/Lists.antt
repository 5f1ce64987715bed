-- The calls `pgs_encode_pcs`, `pgs_encode_wds` and `pgs_encode_pds`.
use Rattle.std.specs.Prelude.{ℕ, Bool, false, List}
use Rattle.pgs_base.specs.Outcome.{pick}
use Rattle.pgs_cells.specs.PcsCells.{pcs_from, pcs_cells_fit}
use Rattle.pgs_writer_base.specs.Kinds.{pcs_rows_writable}

-- a PCS of cells and placements: each cell fits its field, and the rest is the writer's
abbrev pub pcs_cells_writable : ℕ → ℕ → List ℕ → List (List ℕ) → Bool
pcs_cells_writable pts dts cells rows = pick (pcs_cells_fit cells) (pcs_rows_writable pts dts (pcs_from cells) rows) false
