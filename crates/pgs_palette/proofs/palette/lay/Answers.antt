-- `lay` lays the entries one after the other: those that are left, laid over the table as it is, give what all of them give.
-- Assumes nothing.
use Rattle.std.proofs.Common.{◌∙◌, ap, List, ℕ, ◌+◌, ◌≤◌, map, drop, length, arith}
use Rattle.pgs_color.specs.Bytes.{rgb_of}
use Rattle.pgs_palette.specs.Palette.{entry_of}
use Rattle.pgs_palette.specs.Table.{laid}
use Rattle.pgs_palette.proofs.Laying.{laid_next, laid_end}
use Rattle.pgs_palette.proofs.palette.lay.Goals as goal

pub loop-entry-preserved : goal.loop-entry-preserved
loop-entry-preserved c =
    let loop = c.loop-entry in
    let rows = c.args.entries.now in
    let room : 1024 ≤ length loop.table = omega (arith, loop.invariant.0) in (
      c.put.array_long,
      ap (λ (t : List ℕ). laid rgb_of (map entry_of (drop (loop.entry-index + 1) rows)) t) c.put.ensures
          ∙ laid_next rgb_of rows loop.entry-index _ loop.table _ c.loop-entry-test.true room loop.invariant.1,
    )

pub returns : goal.returns
returns c = laid_end rgb_of _ c.loop-entry.entry-index _ _ c.loop-entry-test.false c.loop-entry.invariant.1
