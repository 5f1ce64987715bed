-- The numbers of a PCS as cells.
use Rattle.std.specs.Prelude.{ℕ, Bool, List, [], ◌∷◌, get_or}
use Rattle.pgs_encoding.specs.Layout.{all_fit}
use Rattle.pgs_pcs.specs.declared.pcs.Pcs.{Pcs}

-- width, height, frame rate, composition number, state, palette update flag, palette id
abbrev pub pcs_cells : Pcs → List ℕ
pcs_cells p =
    p.width
    ∷ p.height
    ∷ p.frame_rate
    ∷ p.composition_number
    ∷ p.composition_state
    ∷ p.palette_update_flag
    ∷ p.palette_id
    ∷ []

-- and back
abbrev pub pcs_from : List ℕ → Pcs
pcs_from c =
    record {
      width = get_or c 0 0;
      height = get_or c 1 0;
      frame_rate = get_or c 2 0;
      composition_number = get_or c 3 0;
      composition_state = get_or c 4 0;
      palette_update_flag = get_or c 5 0;
      palette_id = get_or c 6 0;
    }

-- whether the cells of one-byte fields hold bytes; the others have two bytes, as their fields do
abbrev pub pcs_cells_fit : List ℕ → Bool
pcs_cells_fit c = all_fit ((1, get_or c 2 0) ∷ (1, get_or c 4 0) ∷ (1, get_or c 5 0) ∷ (1, get_or c 6 0) ∷ [])
