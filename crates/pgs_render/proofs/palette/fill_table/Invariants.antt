use Rattle.pgs_rendering.proofs.PaletteLaws.{Tabling}
use Rattle.pgs_rendering.specs.Palettes.{empty_table}
use Rattle.pgs_set.specs.Segments.{set_segments, set_segments_left}
use Rattle.pgs_render.proofs.palette.fill_table.Given as goal

abbrev pub invariant-loop-segment : goal.invariant-loop-segment
invariant-loop-segment l =
    Tabling l.named l.set.stream.now empty_table (set_segments l.set.stream.now l.set.from) (set_segments_left l.segment-iterator) l.table
