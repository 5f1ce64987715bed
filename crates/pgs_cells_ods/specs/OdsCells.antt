-- The numbers of an ODS as cells.
use Rattle.std.specs.Prelude.{ℕ, Bool, true, false, List, [], ◌∷◌, ◌++◌, eqb, leb, get_or, Option, None, Some}
use Rattle.pgs_base.specs.Outcome.{pick}
use Rattle.pgs_encoding.specs.Layout.{all_fit}
use Rattle.pgs_base.specs.declared.dimensions.Dimensions.{Dimensions}
use Rattle.pgs_ods.specs.declared.ods.Ods.{Ods}
use Rattle.pgs_records.specs.declared.BodyList.{BodyList}

-- whether dimensions are present, and the two, 0 where they are absent
abbrev pub dimension_cells : Option Dimensions → List ℕ
dimension_cells None = 0 ∷ 0 ∷ 0 ∷ []
dimension_cells (Some d) = 1 ∷ d.width ∷ d.height ∷ []

-- id, version, flag, declared length, the dimensions' cells, place of the data in the body, length of the data
abbrev pub ods_cells : Ods → BodyList → List ℕ
ods_cells o d =
    o.object_id
    ∷ o.object_version_number
    ∷ o.last_in_sequence_flag
    ∷ o.object_data_length
    ∷ dimension_cells o.dimensions
    ++ d.start
    ∷ d.len
    ∷ []

-- the dimensions by the mark 'present'; where it is 0 the other two are ignored
abbrev pub dimensions_from : ℕ → ℕ → ℕ → Option Dimensions
dimensions_from mark width height = pick (eqb mark 0) None (Some (record { width = width; height = height }))

-- a mark is 0 or 1, and dimensions that are present fit their fields
abbrev pub dimensions_fit : ℕ → ℕ → ℕ → Bool
dimensions_fit mark width height =
    pick (eqb mark 0) true (pick (leb mark 1) (all_fit ((2, width) ∷ (2, height) ∷ [])) false)

-- and back from the cells of a caller, which have no place and length
abbrev pub ods_from : List ℕ → Ods
ods_from c =
    record {
      object_id = get_or c 0 0;
      object_version_number = get_or c 1 0;
      last_in_sequence_flag = get_or c 2 0;
      object_data_length = get_or c 3 0;
      dimensions = dimensions_from (get_or c 4 0) (get_or c 5 0) (get_or c 6 0);
    }

-- whether the cells fit their fields; the declared length is the writer's to test
abbrev pub ods_cells_fit : List ℕ → Bool
ods_cells_fit c =
    pick (all_fit ((2, get_or c 0 0) ∷ (1, get_or c 1 0) ∷ (1, get_or c 2 0) ∷ [])) (dimensions_fit (get_or c 4 0) (get_or c 5 0) (get_or c 6 0)) false
