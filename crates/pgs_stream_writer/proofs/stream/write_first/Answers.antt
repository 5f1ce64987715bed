-- `write_first` performs one write after another: the loop keeps `Performing`.
-- Assumes nothing.
use Rattle.pgs_stream_writer.proofs.StreamWriteLaws.{performed, next-whole, next-short, next-fields, performed-next, bytes_written, writes_accepted, none-written}
use mathlib.Core.Path.{sym, ap}
use native.Mathlib.Omega.{arith}
use mir.Syntax.{w16}
use mir.Val.{Fits}
use borrow.Author.Rules.{rules}
use Rattle.pgs_stream_writer.proofs.stream.write_first.Goals as goal

pub rewrite_body-requires-clause-body_value : goal.rewrite_body-requires-clause-body_value
rewrite_body-requires-clause-body_value c =
    next-whole c.args.segments.stream.now c.args.segments.at c.args.n c.args.out.now c.loop-segment.invariant c.in-Some.ensures.steps.0
    c.kind.ensures c.body-body.ensures

pub rewrite_body-requires-clause-body_len_bound : goal.rewrite_body-requires-clause-body_len_bound
rewrite_body-requires-clause-body_len_bound c =
    let short = next-short c.args.segments.stream.now c.args.segments.at c.args.n c.args.out.now c.loop-segment.invariant c.in-Some.ensures.steps.0
    c.kind.ensures c.body-body.ensures in
    let size : Fits w16 c.in-Some.segment.header.segment_size = search rules in
    omega (arith, short, size.fits)

pub loop-segment-preserved : goal.loop-segment-preserved
loop-segment-preserved c =
    let answer = c.rewrite_body.result in
    let none = none-written answer c.in_default.not-Ok in
    let s = c.args.segments in
    let same = next-fields s.stream.now s.at c.args.n c.args.out.now c.loop-segment.invariant c.in-Some.ensures.steps.0 c.kind.ensures c.body-body.ensures in
    performed-next s.stream.now s.at c.args.n c.args.out.now c.loop-segment.invariant c.in-Some.ensures.steps.0 answer same
    c.in-Some.ensures.steps.1 c.rewrite_body.ensures (omega (arith, none.0)) (omega (arith, none.1))

pub loop-segment-preserved-in-Ok : goal.loop-segment-preserved-in-Ok
loop-segment-preserved-in-Ok c =
    let answer = c.rewrite_body.result in
    let s = c.args.segments in
    let same = next-fields s.stream.now s.at c.args.n c.args.out.now c.loop-segment.invariant c.in-Some.ensures.steps.0 c.kind.ensures c.body-body.ensures in
    performed-next s.stream.now s.at c.args.n c.args.out.now c.loop-segment.invariant c.in-Some.ensures.steps.0 answer same
    c.in-Some.ensures.steps.1 c.rewrite_body.ensures
    (omega (arith, ap bytes_written c.in-Ok.is))
    (omega (arith, ap writes_accepted c.in-Ok.is))

pub returns : goal.returns
returns c =
    let s = c.args.segments in
    let w = performed s.stream.now s.at c.args.n c.args.out.now c.loop-segment.invariant (λ h. (c.in-None.ensures.steps h).0) in
    record { result_value = sym w.0; out_after = w.1 }
