-- The numbers of a PDS as cells.
use Rattle.std.specs.Prelude.{ℕ, List, [], ◌∷◌, get_or}
use Rattle.pgs_pds.specs.declared.pds.Pds.{Pds}

-- id, version
abbrev pub pds_cells : Pds → List ℕ
pds_cells p = p.palette_id ∷ p.palette_version_number ∷ []

-- and back; each cell is a byte, as its field is
abbrev pub pds_from : List ℕ → Pds
pds_from c = record { palette_id = get_or c 0 0; palette_version_number = get_or c 1 0 }
