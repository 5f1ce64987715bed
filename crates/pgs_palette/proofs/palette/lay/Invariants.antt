-- `lay` lays the entries one after the other: those that are left, laid over the table as it is, give what all of them give.
-- Assumes nothing.
use Rattle.std.proofs.Common.{◌≡◌, length, map, drop}
use Rattle.pgs_color.specs.Bytes.{rgb_of}
use Rattle.pgs_palette.specs.Palette.{entry_of}
use Rattle.pgs_palette.specs.Table.{laid}
use Rattle.pgs_palette.proofs.palette.lay.Given as goal

abbrev pub invariant-loop-entry : goal.invariant-loop-entry
invariant-loop-entry l =
    (length l.table ≡ 1024) × (laid rgb_of (map entry_of (drop l.entry-index l.entries)) l.table ≡ laid rgb_of (map entry_of l.entries) l.initial.table)
