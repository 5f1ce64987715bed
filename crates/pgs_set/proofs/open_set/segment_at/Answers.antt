-- The first segment that is left of an accepted stream stands at its place. Assumes nothing.
use Prim.Native.Nat.{◌<◌}
use Rattle.pgs_segment.specs.Header.{header_fields}
use Rattle.pgs_stream.proofs.SegmentLaws.{first-left}
use Rattle.pgs_stream.specs.Segments.{placed, segments_left}
use Rattle.pgs_stream.specs.declared.segments.PlacedSegment.{PlacedSegment}
use Rattle.pgs_stream.specs.declared.segments.Segments.{Segments}
use Rattle.std.specs.Iterator.{YieldsFirst}
use Rattle.std.specs.Prelude.{Option, None, Some}
use lib.ListN.{length, drop}
use mathlib.Core.Path.{◌≡◌, refl, sym, ◌∙◌}
use Rattle.pgs_set.proofs.open_set.segment_at.Goals as goal

-- before the end of its stream, an iterator gives the segment at its place
given : (it after : Segments) (o : Option PlacedSegment) → it.at < length it.stream.now → YieldsFirst segments_left it o after
    → o ≡ Some (placed it.at (header_fields (drop it.at it.stream.now)))
given it after None h e = let p = sym e.0 ∙ first-left it.stream.now it.good h in cc
given it after (Some x) h e = let p = sym e ∙ first-left it.stream.now it.good h in cc

pub unwrap-requires : goal.unwrap-requires
unwrap-requires c =
    let it : Segments = record { stream = c.args.s; at = c.args.at; good = c.requires.stream_good } in
    rw (given it c.next.new.self c.next.result c.requires.place_bound c.next.ensures.steps) refl

pub returns : goal.returns
returns c =
    let it : Segments = record { stream = c.args.s; at = c.args.at; good = c.requires.stream_good } in
    let p = sym c.unwrap.ensures ∙ given it c.next.new.self c.next.result c.requires.place_bound c.next.ensures.steps in
    cc
