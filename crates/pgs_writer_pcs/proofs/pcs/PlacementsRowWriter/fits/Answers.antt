-- `fits` tests the cells that take one byte, then the mark by the flag.
-- Assumes nothing.
use Prim.Native.Nat.{ℕ, ◌<◌}
use Rattle.pgs_writer_base.proofs.PlacementLaws.{fits-cropped}
use lib.ListN.{get_or}
use mathlib.Core.Path.{sym, ◌∙◌}
use mir.Syntax.{w16}
use mir.Val.{Fits}
use borrow.Author.Rules.{rules}
use Rattle.pgs_writer_pcs.proofs.pcs.PlacementsRowWriter.fits.Goals.{Start}
use Rattle.pgs_writer_pcs.proofs.pcs.PlacementsRowWriter.fits.Goals as goal

-- a cell fits its type
cell-fits : (c : Start) (k : ℕ) → Fits w16 (get_or c.args.row k 0)
cell-fits c k = search rules

cell : (c : Start) (k : ℕ) → get_or c.args.row k 0 < 65536
cell c k = (cell-fits c k).fits

pub returns-then-flag-from : goal.returns-then-flag-from
returns-then-flag-from c =
    sym (fits-cropped c.args.row (cell (goal.at.returns-then-flag-from c).Start) c.if-window-gt-ONE_BYTE.false c.if-flag-gt-ONE_BYTE.false (c.if-flag-from.true ∙ c.from.ensures))
