-- The records of a caller's list, as the values that they stand for: the other way round from the rows that reading fills.
use Rattle.std.specs.Prelude.{ℕ, Bool, List, leb, get_or}
use Rattle.pgs_pcs.specs.PcsBody.{crop_from}
use Rattle.pgs_pcs.specs.declared.pcs.CompositionObject.{CompositionObject}
use Rattle.pgs_pds.specs.declared.pds.PaletteEntry.{PaletteEntry}
use Rattle.pgs_wds.specs.declared.wds.Window.{Window}

-- id, x, y, width, height
abbrev pub window_from : List ℕ → Window
window_from r =
    record {
      window_id = get_or r 0 0;
      horizontal_position = get_or r 1 0;
      vertical_position = get_or r 2 0;
      width = get_or r 3 0;
      height = get_or r 4 0;
    }

-- id, Y, Cr, Cb, alpha
abbrev pub entry_from : List ℕ → PaletteEntry
entry_from r = record { palette_entry_id = get_or r 0 0; y = get_or r 1 0; cr = get_or r 2 0; cb = get_or r 3 0; alpha = get_or r 4 0 }

-- object id, window id, crop flag, x, y, then the crop's cells
abbrev pub placement_from : List ℕ → CompositionObject
placement_from r =
    record {
      object_id = get_or r 0 0;
      window_id = get_or r 1 0;
      object_cropped_flag = get_or r 2 0;
      object_horizontal_position = get_or r 3 0;
      object_vertical_position = get_or r 4 0;
      cropping = crop_from r;
    }

-- whether the mark of a crop is one that a record can have
abbrev pub mark_fits : List ℕ → Bool
mark_fits r = leb (get_or r 5 0) 1
