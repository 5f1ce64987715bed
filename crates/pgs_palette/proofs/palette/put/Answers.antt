-- `put` stores the four bytes of the entry's colour at its index.
-- Assumes nothing.
use Rattle.std.proofs.Common.{◌≡◌, ◌∙◌, sym, ◌+◌, ◌-◌, ◌*◌, ◌≤◌, length, arith}
use lib.Seq.{sets}
use Rattle.pgs_color.specs.Bytes.{rgb_of}
use Rattle.pgs_palette.specs.Palette.{entry_of}
use Rattle.pgs_palette.specs.Table.{pixel_of}
use Rattle.pgs_palette.proofs.Laying.{stored-pixel, laid_one}
use Rattle.pgs_palette.proofs.palette.put.Goals as goal

pub returns : goal.returns
returns c =
    let t = c.args.table.now in
    let at = c.from-at.result * 4 in
    let room : 1024 ≤ length t = omega (arith, c.told-table) in
    let four : at + 4 - at ≡ 4 = omega arith in
    rw (c.copy_from_slice.ensures.after, c.from.ensures, four)
    (stored-pixel t at c.to_rgba.result (omega arith)
    ∙ (λ i. sets t (c.from-at.ensures i * 4) (pixel_of (c.to_rgba.ensures i)))
    ∙ sym (laid_one rgb_of (entry_of c.args.entry) t room c.element_fits.fits))
