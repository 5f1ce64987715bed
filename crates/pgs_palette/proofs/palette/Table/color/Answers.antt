-- `Table::color` takes the chunk of the index.
-- Assumes nothing.
use Rattle.std.proofs.Common.{rules, ◌≡◌, ◌∙◌, ◌/◌, [], length, arith}
use Rattle.pgs_palette.proofs.Laying.{chunk-pixel}
use Rattle.pgs_palette.proofs.palette.Table.color.Goals as goal

pub returns : goal.returns
returns c =
    let bytes = c.args.self.bytes.now in
    let long : length bytes ≡ 1024 = search rules in
    let many : length bytes / 4 ≡ 256 = omega (arith, long) in
    c.from-2.ensures ∙ rw (c.as_chunks.ensures.front, many, c.from.ensures) (chunk-pixel bytes 256 c.args.index [] (omega (arith, long)) c.ranges.index.fits)
