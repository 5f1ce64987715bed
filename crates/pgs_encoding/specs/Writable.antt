-- What cannot be written. 01: "35: over 255 placements or windows, a body over 65,535 bytes, declared length of 2^24 or more, crop
-- present other than exactly at flag 40, dimensions present other than exactly at a first fragment, or an unknown kind carrying one of
-- the five known bytes." The first three are numbers that do not fit their fields: a count in 1 byte, a size in 2, a declared length in
-- 3. So is any other number that its field cannot hold, which the papers leave free.
use Rattle.pgs_pcs.specs.declared.pcs.CompositionObjectCrop.{CompositionObjectCrop}
use Rattle.std.specs.Prelude.{Bool, true, false, not, [], ◌∷◌, eqb, length, Option, None, Some}
use Rattle.pgs_views.specs.Fragments.{fragment_of, is_first}
use Rattle.pgs_views.specs.Kinds.{type_of}
use Rattle.pgs_base.specs.Outcome.{Verdict, unless, pick}
use Rattle.pgs_views.specs.declared.segment_type.SegmentType.{SegmentType}
use Rattle.pgs_views.specs.declared.segment_type.SegmentType.TheVariants as kinds
use Rattle.pgs_segment.specs.Fields.{BodyFields, pcs, wds, pds, ods, end, other, SegmentFields, kind_byte}
use Rattle.pgs_base.specs.declared.dimensions.Dimensions.{Dimensions}
use Rattle.pgs_ods.specs.declared.ods.Ods.{Ods}
use Rattle.pgs_pcs.specs.declared.pcs.CompositionObject.{CompositionObject}
use Rattle.pgs_encoding.specs.Encode.{head_fields, placement_fields, pcs_fields, window_fields, pds_fields, entry_fields, ods_fields, body_bytes}
use Rattle.pgs_encoding.specs.Layout.{all_fit, each}

-- a crop is present exactly where the first test holds
abbrev pub crop_where : Bool → Option CompositionObjectCrop → Bool
crop_where t (Some c) = t
crop_where t None = not t

-- dimensions are present exactly where the first test holds
abbrev pub dimensions_where : Bool → Option Dimensions → Bool
dimensions_where t (Some d) = t
dimensions_where t None = not t

abbrev pub placement_writable : CompositionObject → Bool
placement_writable p = pick (crop_where (eqb p.object_cropped_flag 0x40) p.cropping) (all_fit (placement_fields p)) false

abbrev pub ods_writable : Ods → Bool
ods_writable o =
    pick (dimensions_where (is_first (fragment_of o.last_in_sequence_flag)) o.dimensions) (all_fit (ods_fields o)) false

-- whether a byte is none of the five known ones
abbrev pub unknown_kind : SegmentType → Bool
unknown_kind kinds.Pds = false
unknown_kind kinds.Ods = false
unknown_kind kinds.Pcs = false
unknown_kind kinds.Wds = false
unknown_kind kinds.End = false
unknown_kind (kinds.Other v) = true

abbrev pub body_writable : BodyFields → Bool
body_writable (pcs p ps) = pick (all_fit (pcs_fields p (length ps))) (each placement_writable ps) false
body_writable (wds ws) = pick (all_fit ((1, length ws) ∷ [])) (each (λ w. all_fit (window_fields w)) ws) false
body_writable (pds p es) = pick (all_fit (pds_fields p)) (each (λ e. all_fit (entry_fields e)) es) false
body_writable (ods o d) = ods_writable o
body_writable end = true
body_writable (other v d) = unknown_kind (type_of v)

-- the head's numbers fit, the size of the body among them, and the body can be written
unfoldable pub writable : SegmentFields → Bool
writable f =
    pick (all_fit (head_fields f.pts f.dts (kind_byte f.body) (length (body_bytes f.body)))) (body_writable f.body) false

abbrev pub write_verdict : SegmentFields → Verdict
write_verdict f = unless 35 (writable f)
