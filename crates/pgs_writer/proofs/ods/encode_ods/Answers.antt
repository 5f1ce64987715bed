-- `encode_ods` tests the numbers, then writes them and the data.
-- Assumes nothing.
use Rattle.std.proofs.Common.{rules, List, ℕ, ◌≡◌, ◌++◌, take, ap, sym, refl, ◌∙◌, arith}
use Rattle.std.specs.Prelude.{None, Some}
use Rattle.pgs_base.specs.declared.dimensions.Dimensions.{Dimensions}
use Rattle.pgs_encoding.specs.Encode.{encode, dimension_fields, ods_fields}
use Rattle.pgs_encoding.specs.Layout.{written}
use Rattle.pgs_ods.specs.declared.ods.Ods.{Ods}
use Rattle.pgs_segment.specs.Fields.{ods}
use Rattle.pgs_views.specs.declared.segment_type.SegmentType.TheVariants as kinds
use Rattle.pgs_writer_base.proofs.BodyLaws.{data-answer}
use Rattle.pgs_writer_base.proofs.WriteLaws.{TimesFit, body_refused, write-35}
use Rattle.pgs_writer_base.specs.Kinds.{ods_segment}
use Rattle.pgs_writer.proofs.ods.encode_ods.Goals.{Start}
use Rattle.pgs_writer.proofs.ods.encode_ods.Goals as goal

-- the times fit their types
times_fit : (c : Start) → TimesFit c.args.times
times_fit c = search rules

pub returns-then-not-ods_fits : goal.returns-then-not-ods_fits
returns-then-not-ods_fits c =
    let f = ods_segment c.args.times.pts c.args.times.dts c.args.ods c.args.«data».now in
    write-35 (encode f) c.args.out.now (body_refused f (sym c.ods_fits.ensures ∙ c.if-not-ods_fits.true))

-- with no dimensions, the numbers before them are all
plain : (o : Ods) → o.dimensions ≡ None → take 7 (written (ods_fields o)) ≡ written (ods_fields o)
plain o e = rw e refl

-- and a first fragment's dimensions stand behind them
first : (o : Ods) (size : Dimensions) → o.dimensions ≡ Some size → take 7 (written (ods_fields o)) ++ written (dimension_fields (Some size)) ≡ written (ods_fields o)
first o size e = rw e refl

pub returns-in-None : goal.returns-in-None
returns-in-None c =
    let o = c.args.ods in
    let d = c.args.«data».now in
    data-answer c.args.times (times_fit (goal.at.returns-in-None c).Start) kinds.Ods (ods o d) refl (omega arith)
    (ap (λ (l : List ℕ). l ++ d) (c.ods_bytes.ensures ∙ plain o c.in-None.is)) (sym c.if-not-ods_fits.false ∙ c.ods_fits.ensures) c.encode_data.ensures

pub returns-in-Some : goal.returns-in-Some
returns-in-Some c =
    let o = c.args.ods in
    let d = c.args.«data».now in
    data-answer c.args.times (times_fit (goal.at.returns-in-Some c).Start) kinds.Ods (ods o d) refl (omega arith)
    (ap (λ (l : List ℕ). l ++ d) (c.first_bytes.ensures ∙ first o c.in-Some.size c.in-Some.is)) (sym c.if-not-ods_fits.false ∙ c.ods_fits.ensures)
    c.encode_data-in-Some.ensures
