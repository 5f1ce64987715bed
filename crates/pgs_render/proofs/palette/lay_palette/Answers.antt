-- `lay_palette` hands the entries over, with the id of their palette.
-- Assumes nothing.
use Rattle.pgs_palette.specs.Palette.{entry_of}
use Rattle.pgs_pds.specs.declared.pds.Pds.{Pds}
use Rattle.pgs_rendering.proofs.PaletteLaws.{chunks-laid}
use mathlib.Core.List.{List, map}
use mathlib.Core.Path.{ap}
use native.Mathlib.Omega.{arith}
use Prim.Native.Nat.{ℕ}
use Rattle.pgs_render.proofs.palette.lay_palette.Goals as goal

pub returns : goal.returns
returns c =
    chunks-laid c.args.body.now c.args.named (omega arith) (ap (λ (p : Pds). p.palette_id) c.numbers.ensures)
    (ap (λ (es : List (List ℕ)). map entry_of es) c.entries.ensures) c.apply.ensures
