-- A segment's fields. 01, module 3: "Each state and flag byte is kept, so that no two read alike ... A segment's fields are PTS, DTS,
-- the kind's byte, and all values and data bytes named here or kept of an unknown kind; places are not fields."
-- The kind's byte is that of the body's case; only an unknown kind carries one.
use Rattle.std.specs.Prelude.{ℕ, ◌≡◌, List, length, take, drop, eqb}
use Rattle.pgs_views.specs.Kinds.{raw_of}
use Rattle.pgs_base.specs.Outcome.{Verdict, accepted, unless}
use Rattle.pgs_ods.specs.OdsBody.{ods_of, ods_data, ods_verdict, ods_list}
use Rattle.pgs_pcs.specs.PcsBody.{pcs_of, placements_of, pcs_verdict, pcs_list}
use Rattle.pgs_pds.specs.PdsBody.{pds_of, entries_of, pds_verdict, pds_list}
use Rattle.pgs_wds.specs.WdsBody.{windows_of, wds_verdict, wds_list}
use Rattle.pgs_views.specs.declared.segment_type.SegmentType.{SegmentType}
use Rattle.pgs_views.specs.declared.segment_type.SegmentType.TheVariants as kinds
use Rattle.pgs_ods.specs.declared.ods.Ods.{Ods}
use Rattle.pgs_pcs.specs.declared.pcs.CompositionObject.{CompositionObject}
use Rattle.pgs_pcs.specs.declared.pcs.Pcs.{Pcs}
use Rattle.pgs_pds.specs.declared.pds.PaletteEntry.{PaletteEntry}
use Rattle.pgs_pds.specs.declared.pds.Pds.{Pds}
use Rattle.pgs_records.specs.declared.BodyList.{BodyList}
use Rattle.pgs_segment.specs.declared.segment.SegmentBody.{SegmentBody}
use Rattle.pgs_segment.specs.declared.segment.SegmentBody.TheVariants as numbers
use Rattle.pgs_wds.specs.declared.wds.Window.{Window}

-- all values and data bytes of a body
pub data BodyFields : Type 0 where
  pcs : Pcs → List CompositionObject → BodyFields
  wds : List Window → BodyFields
  pds : Pds → List PaletteEntry → BodyFields
  ods : Ods → List ℕ → BodyFields
  end : BodyFields
  other : ℕ → List ℕ → BodyFields

-- PTS, DTS and the body's fields
pub record SegmentFields : Type 0 where
  pub pts : ℕ
  pub dts : ℕ
  pub body : BodyFields

-- the kind's byte
abbrev pub kind_byte : BodyFields → ℕ
kind_byte (pcs p ps) = raw_of kinds.Pcs
kind_byte (wds ws) = raw_of kinds.Wds
kind_byte (pds p es) = raw_of kinds.Pds
kind_byte (ods o d) = raw_of kinds.Ods
kind_byte end = raw_of kinds.End
kind_byte (other v d) = v

-- whether a body of this kind is accepted. 6: "END body not empty"; an unknown kind is always kept
abbrev pub body_verdict : SegmentType → List ℕ → Verdict
body_verdict kinds.Pds b = pds_verdict b
body_verdict kinds.Ods b = ods_verdict b
body_verdict kinds.Pcs b = pcs_verdict b
body_verdict kinds.Wds b = wds_verdict b
body_verdict kinds.End b = unless 6 (eqb (length b) 0)
body_verdict (kinds.Other v) b = accepted

-- the fields of an accepted body
abbrev pub body_of : SegmentType → List ℕ → BodyFields
body_of kinds.Pds b = pds (pds_of b) (entries_of b)
body_of kinds.Ods b = ods (ods_of b) (ods_data b)
body_of kinds.Pcs b = pcs (pcs_of b) (placements_of b)
body_of kinds.Wds b = wds (windows_of b)
body_of kinds.End b = end
body_of (kinds.Other v) b = other v b

-- where the list or the data of an accepted body stands
abbrev pub body_list : SegmentType → List ℕ → BodyList
body_list kinds.Pds b = pds_list b
body_list kinds.Ods b = ods_list b
body_list kinds.Pcs b = pcs_list b
body_list kinds.Wds b = wds_list b
body_list kinds.End b = record { count = 0; start = 0; len = 0 }
body_list (kinds.Other v) b = record { count = 0; start = 0; len = length b }

-- the bytes of that part of the body
abbrev pub part_of : BodyList → List ℕ → List ℕ
part_of p b = take p.len (drop p.start b)

-- 01, 'Forms that must be recast': "a kind with numbers, and places in the stream beside it": at the place that is answered for an ODS or
-- for an unknown kind, its data stands. `proofs/PartLaws.antt` has the proofs
abbrev pub OdsPart : Type 0
OdsPart = (b : List ℕ) → part_of (body_list kinds.Ods b) b ≡ ods_data b

abbrev pub OtherPart : Type 0
OtherPart = (v : ℕ) (b : List ℕ) → part_of (body_list (kinds.Other v) b) b ≡ b

-- the kind and the numbers alone, without the list or the data
abbrev pub numbers_of : BodyFields → SegmentBody
numbers_of (pcs p ps) = numbers.Pcs p
numbers_of (wds ws) = numbers.Wds
numbers_of (pds p es) = numbers.Pds p
numbers_of (ods o d) = numbers.Ods o
numbers_of end = numbers.End
numbers_of (other v d) = numbers.Other v
