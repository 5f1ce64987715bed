-- `to_row` lays the cells out; those of the crop by its case.
-- Assumes nothing.
use Prim.Native.Nat.{ℕ}
use Rattle.pgs_pcs.specs.declared.pcs.CompositionObject.{CompositionObject}
use Rattle.pgs_pcs.specs.PcsBody.{crop_cells}
use mathlib.Core.List.{List, ◌∷◌}
use mathlib.Core.Path.{sym, ap}
use Rattle.pgs_pcs.proofs.pcs.CompositionObjectListRecord.to_row.Goals as goal

-- a row with these cells of the window, the flag and the crop
abbrev row : CompositionObject → ℕ → ℕ → List ℕ → List ℕ
row p window flag crop = p.object_id ∷ window ∷ flag ∷ p.object_horizontal_position ∷ p.object_vertical_position ∷ crop

pub returns-in-None : goal.returns-in-None
returns-in-None c = λ j. row c.args.self (c.from-window.ensures j) (c.from-flag.ensures j) (sym (ap crop_cells c.in-None.is) j)

pub returns-in-Some : goal.returns-in-Some
returns-in-Some c = λ j. row c.args.self (c.from-window.ensures j) (c.from-flag.ensures j) (sym (ap crop_cells c.in-Some.is) j)
