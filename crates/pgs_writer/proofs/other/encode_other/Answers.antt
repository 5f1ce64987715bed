-- `encode_other` tests the kind, and writes data alone.
-- Assumes nothing.
use Rattle.std.proofs.Common.{rules, ◌≡◌, ◌∙◌, ap, sym, refl, ℕ, false}
use Rattle.pgs_encoding.specs.Encode.{encode}
use Rattle.pgs_encoding.specs.Writable.{unknown_kind}
use Rattle.pgs_segment.specs.Fields.{other}
use Rattle.pgs_views.proofs.Views.{raw-type}
use Rattle.pgs_views.specs.Kinds.{raw_of, type_of}
use Rattle.pgs_views.specs.declared.segment_type.SegmentType.{SegmentType}
use Rattle.pgs_views.specs.declared.segment_type.SegmentType.TheVariants as kinds
use Rattle.pgs_writer_base.proofs.BodyLaws.{data-answer}
use Rattle.pgs_writer_base.proofs.WriteLaws.{TimesFit, body_refused, write-35}
use Rattle.pgs_writer_base.specs.Kinds.{other_segment}
use Rattle.pgs_writer.proofs.other.encode_other.Goals.{Start}
use Rattle.pgs_writer.proofs.other.encode_other.Goals as goal

-- the times fit their types
times_fit : (c : Start) → TimesFit c.args.times
times_fit c = search rules

-- a kind that is none of the others is known
known : (t : SegmentType) → ((v : ℕ) → t ≡ kinds.Other v → ⊥) → unknown_kind t ≡ false
known kinds.Pds h = refl
known kinds.Ods h = refl
known kinds.Pcs h = refl
known kinds.Wds h = refl
known kinds.End h = refl
known (kinds.Other v) h = absurd (h v refl)

pub returns-in-Other : goal.returns-in-Other
returns-in-Other c =
    let kind = c.args.kind in
    let d = c.args.«data».now in
    let is : type_of kind ≡ kinds.Other c.in-Other.v = sym c.from.ensures ∙ c.in-Other.is in
    let byte : raw_of (kinds.Other c.in-Other.v) ≡ kind = sym (ap raw_of is) ∙ raw-type kind in
    data-answer c.args.times (times_fit (goal.at.returns-in-Other c).Start) (kinds.Other c.in-Other.v) (other kind d) byte c.ranges.kind.fits refl
    (sym (ap unknown_kind is)) c.encode_data.ensures

pub returns-in_default : goal.returns-in_default
returns-in_default c =
    let f = other_segment c.args.times.pts c.args.times.dts c.args.kind c.args.«data».now in
    write-35 (encode f) c.args.out.now
    (body_refused f (sym (ap unknown_kind c.from.ensures) ∙ known c.from.result c.in_default.not-Other))
