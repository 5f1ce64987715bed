-- `next` gives the segment at the place, and goes on behind it.
-- Assumes nothing.
use Prim.Native.Nat.{ℕ, ◌+◌}
use mathlib.Core.List.{List, ◌∷◌}
use mathlib.Core.Path.{◌≡◌, ap}
use native.Mathlib.Omega.{arith}
use lib.ListN.{length, drop}
use Rattle.pgs_segment.specs.Header.{header_fields}
use Rattle.pgs_segment.specs.OneSegment.{used_by}
use Rattle.pgs_segment.specs.declared.header.SegmentHeader.{SegmentHeader}
use Rattle.pgs_stream.specs.Segments.{placed, segments_from}
use Rattle.pgs_stream.specs.declared.segments.PlacedSegment.{PlacedSegment}
use Rattle.pgs_stream.proofs.SegmentLaws.{none-left, good-on, first-left}
use Rattle.pgs_stream.proofs.segments.SegmentsIterator.next.Goals as goal

-- how many bytes the segment takes whose head was read
its-size : (l : List ℕ) {h : SegmentHeader} → h ≡ header_fields l → 13 + h.segment_size ≡ used_by l
its-size l e = ap (λ (h : SegmentHeader). 13 + h.segment_size) e

pub returns-then-self-clause-steps : goal.returns-then-self-clause-steps
returns-then-self-clause-steps c =
    let it = c.args.self.now in
    let none = none-left it.stream.now it.at c.if-self.true in
    (none, none)

pub invariant_of-self : goal.invariant_of-self
invariant_of-self c =
    let it = c.args.self.now in
    let s = it.stream.now in
    record { good = rw (c.used.ensures, its-size (drop it.at s) c.header_at-header.ensures) (good-on s it.good c.if-self.false) }

-- the segment and what is left behind it
first : (c : goal.After-self-1)
    → segments_from c.args.self.now.stream.now c.args.self.now.at
    ≡ record { at = c.args.self.now.at; header = c.header_at-header.result; end = c.args.self.now.at + c.used.result }
    ∷ segments_from c.args.self.now.stream.now (c.args.self.now.at + c.used.result)
first c =
    let it = c.args.self.now in
    let l = drop it.at it.stream.now in
    let head = c.header_at-header.ensures in
    rw (c.used.ensures, ap (placed it.at) head, its-size l head) (first-left it.stream.now it.good c.if-self.false)

pub returns-clause-steps : goal.returns-clause-steps
returns-clause-steps c = first c

pub returns-clause-goes : goal.returns-clause-goes
returns-clause-goes c =
    let fewer = ap (length {A = PlacedSegment}) (first c) in
    record { on = λ _. (tt, tt, omega arith); keeps = tt; rests = λ _. tt }
