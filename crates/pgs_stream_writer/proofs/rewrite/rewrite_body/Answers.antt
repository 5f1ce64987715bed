-- `rewrite_body` hands the body to the writing of its kind.
-- Assumes nothing.
use Rattle.pgs_base.specs.Outcome.{accepted}
use Rattle.pgs_views.specs.declared.segment_type.SegmentType.{SegmentType}
use Rattle.pgs_segment.specs.Fields.{body_verdict, SegmentFields}
use Rattle.pgs_writer_base.specs.declared.head.Timestamps.{Timestamps}
use Rattle.pgs_writer_base.specs.Kinds.{segment_with}
use Rattle.pgs_stream_writer.proofs.ReadAgain.{entries-again, same_write}
use mathlib.Core.List.{List}
use mathlib.Core.Path.{◌≡◌, refl, sym, ap, ◌∙◌}
use Prim.Native.Nat.{ℕ}
use Rattle.pgs_stream_writer.proofs.rewrite.rewrite_body.Goals as goal

module _ {k t : SegmentType} (b : List ℕ) (e : k ≡ t) where
  -- what holds of the kind that the value is
  verdict-at : body_verdict k b ≡ accepted → body_verdict t b ≡ accepted
  verdict-at v = sym (ap (λ (x : SegmentType). body_verdict x b) e) ∙ v

  -- and fields of that kind
  fields-at : (s : Timestamps) {f : SegmentFields} → f ≡ segment_with s.pts s.dts t b → f ≡ segment_with s.pts s.dts k b
  fields-at s q = q ∙ sym (ap (λ (x : SegmentType). segment_with s.pts s.dts x b) e)

pub returns-in-Pds : goal.returns-in-Pds
returns-in-Pds c =
    let b = c.args.body.now in
    let same = entries-again c.args.times b c.numbers.ensures c.entries.ensures in
    same_write (fields-at b c.in-Pds.is c.args.times same) c.encode_pds.ensures

pub rewrite_pcs-requires : goal.rewrite_pcs-requires
rewrite_pcs-requires c = verdict-at c.args.body.now c.in-Pcs.is c.requires.body_value

pub returns-in-Pcs : goal.returns-in-Pcs
returns-in-Pcs c = same_write (fields-at c.args.body.now c.in-Pcs.is c.args.times refl) c.rewrite_pcs.ensures

pub rewrite_wds-requires : goal.rewrite_wds-requires
rewrite_wds-requires c = verdict-at c.args.body.now c.in-Wds.is c.requires.body_value

pub returns-in-Wds : goal.returns-in-Wds
returns-in-Wds c = same_write (fields-at c.args.body.now c.in-Wds.is c.args.times refl) c.rewrite_wds.ensures
