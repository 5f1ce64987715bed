-- The fields of a segment that a caller hands to a writer.
use Rattle.std.specs.Prelude.{ℕ, Bool, false, List, map}
use Rattle.pgs_base.specs.Outcome.{pick}
use Rattle.pgs_segment.specs.Fields.{pcs, wds, pds, ods, end, other, SegmentFields, body_of}
use Rattle.pgs_views.specs.declared.segment_type.SegmentType.{SegmentType}
use Rattle.pgs_ods.specs.declared.ods.Ods.{Ods}
use Rattle.pgs_pcs.specs.declared.pcs.Pcs.{Pcs}
use Rattle.pgs_pds.specs.declared.pds.Pds.{Pds}
use Rattle.pgs_encoding.specs.Encode.{window_fields}
use Rattle.pgs_encoding.specs.Layout.{all_fit, each}
use Rattle.pgs_writer_base.specs.Rows.{window_from, entry_from, placement_from, mark_fits}
use Rattle.pgs_encoding.specs.Writable.{writable, placement_writable}

-- a WDS of the windows that the records stand for
abbrev pub wds_segment : ℕ → ℕ → List (List ℕ) → SegmentFields
wds_segment pts dts rows = record { pts = pts; dts = dts; body = wds (map window_from rows) }

-- whether each record of a window can be written
abbrev pub window_rows_fit : List (List ℕ) → Bool
window_rows_fit rows = each (λ w. all_fit (window_fields w)) (map window_from rows)

-- a PDS of its numbers and the entries that the records stand for
abbrev pub pds_segment : ℕ → ℕ → Pds → List (List ℕ) → SegmentFields
pds_segment pts dts p rows = record { pts = pts; dts = dts; body = pds p (map entry_from rows) }

-- an ODS of its numbers and its data
abbrev pub ods_segment : ℕ → ℕ → Ods → List ℕ → SegmentFields
ods_segment pts dts o d = record { pts = pts; dts = dts; body = ods o d }

abbrev pub end_segment : ℕ → ℕ → SegmentFields
end_segment pts dts = record { pts = pts; dts = dts; body = end }

-- a segment of an unknown kind, of its byte and its data
abbrev pub other_segment : ℕ → ℕ → ℕ → List ℕ → SegmentFields
other_segment pts dts kind d = record { pts = pts; dts = dts; body = other kind d }

-- a PCS of its numbers and the placements that the records stand for
abbrev pub pcs_segment : ℕ → ℕ → Pcs → List (List ℕ) → SegmentFields
pcs_segment pts dts p rows = record { pts = pts; dts = dts; body = pcs p (map placement_from rows) }

-- whether a record of a placement can be written: one whose mark of a crop is neither 0 nor 1 stands for no placement
abbrev pub placement_row_fits : List ℕ → Bool
placement_row_fits r = pick (mark_fits r) (placement_writable (placement_from r)) false

-- and each of them
abbrev pub placement_rows_fit : List (List ℕ) → Bool
placement_rows_fit rows = pick (each mark_fits rows) (each placement_writable (map placement_from rows)) false

-- whether such a PCS can be written
abbrev pub pcs_rows_writable : ℕ → ℕ → Pcs → List (List ℕ) → Bool
pcs_rows_writable pts dts p rows = pick (each mark_fits rows) (writable (pcs_segment pts dts p rows)) false

-- a segment of the fields that a body of this kind has
abbrev pub segment_with : ℕ → ℕ → SegmentType → List ℕ → SegmentFields
segment_with pts dts kind b = record { pts = pts; dts = dts; body = body_of kind b }
