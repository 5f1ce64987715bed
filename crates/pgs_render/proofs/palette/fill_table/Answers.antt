use Rattle.std.proofs.Common.{sym, ap, ◌∙◌}
use mathlib.Core.List.{List}
use native.Mathlib.Omega.{arith}
use Rattle.pgs_color.specs.Bytes.{rgb_of}
use Rattle.pgs_palette.specs.Palette.{Entry}
use Rattle.pgs_palette.specs.Table.{laid}
use Rattle.pgs_rendering.specs.Palettes.{is_pds, empty_table}
use Rattle.pgs_rendering.proofs.ColorLaws.{empty-length}
use Rattle.pgs_rendering.proofs.PaletteLaws.{tabling, tabled, tables-pds, entries-listed}
use Rattle.pgs_set.proofs.OpenLaws.{is-open}
use Rattle.pgs_set.proofs.SegmentLaws.{segments-stand}
use Rattle.pgs_render.proofs.palette.fill_table.Goals as goal

pub loop-segment-init : goal.loop-segment-init
loop-segment-init c =
    let o = c.args.set in
    rw (c.into_iter-segment-iterator.ensures.into_iter_gives, c.segments-segment-items.ensures)
    (tabling (segments-stand o.stream.now (is-open o.stream.now o.from o.in_set)) (omega (arith, empty-length)) c.requires)

pub loop-segment-preserved-then-is_pds : goal.loop-segment-preserved-then-is_pds
loop-segment-preserved-then-is_pds c =
    tables-pds c.loop-segment.invariant c.in-Some.ensures.steps
    (ap is_pds (sym c.kind.ensures) ∙ sym c.if-is_pds.ensures) (rw c.body.ensures at c.lay_palette.ensures)

pub returns : goal.returns
returns c =
    let o = c.args.set in
    tabled c.loop-segment.invariant c.in-None.ensures.steps.0
    ∙ ap (λ (es : List Entry). laid rgb_of es empty_table) (sym (entries-listed c.args.named o.stream.now (is-open o.stream.now o.from o.in_set)))
