-- The bytes of a segment, from its fields. 01, module 5: "It recomputes the size, and writes known kinds with their own byte." The layouts
-- are those of modules 2 and 3.
-- From US 2009/0185789, whose text is not at hand: 01 gives what is needed of it.
use Rattle.pgs_pcs.specs.declared.pcs.CompositionObjectCrop.{CompositionObjectCrop}
use Rattle.std.specs.Prelude.{ℕ, List, [], ◌∷◌, ◌++◌, length, Option, None, Some}
use Rattle.pgs_segment.specs.Fields.{BodyFields, pcs, wds, pds, ods, end, other, SegmentFields, kind_byte}
use Rattle.pgs_base.specs.declared.dimensions.Dimensions.{Dimensions}
use Rattle.pgs_ods.specs.declared.ods.Ods.{Ods}
use Rattle.pgs_pcs.specs.declared.pcs.CompositionObject.{CompositionObject}
use Rattle.pgs_pcs.specs.declared.pcs.Pcs.{Pcs}
use Rattle.pgs_pds.specs.declared.pds.PaletteEntry.{PaletteEntry}
use Rattle.pgs_pds.specs.declared.pds.Pds.{Pds}
use Rattle.pgs_wds.specs.declared.wds.Window.{Window}
use Rattle.pgs_encoding.specs.Layout.{Field, written, record_bytes}

-- "mark 50 47, PTS 4 bytes, DTS 4, kind 1, body size 2"
abbrev pub head_fields : ℕ → ℕ → ℕ → ℕ → List Field
head_fields pts dts kind size = (1, 0x50) ∷ (1, 0x47) ∷ (4, pts) ∷ (4, dts) ∷ (1, kind) ∷ (2, size) ∷ []

-- "crop x, y, width, height, 2 each"
abbrev pub crop_fields : Option CompositionObjectCrop → List Field
crop_fields None = []
crop_fields (Some c) = (2, c.horizontal_position) ∷ (2, c.vertical_position) ∷ (2, c.width) ∷ (2, c.height) ∷ []

-- "object id 2, window id 1, crop flag 1, x 2, y 2"
abbrev pub placement_fields : CompositionObject → List Field
placement_fields p =
    (2, p.object_id)
    ∷ (1, p.window_id)
    ∷ (1, p.object_cropped_flag)
    ∷ (2, p.object_horizontal_position)
    ∷ (2, p.object_vertical_position)
    ∷ crop_fields p.cropping

-- "width 2, height 2, frame rate 1, composition number 2, state 1 .., palette update flag 1 .., palette id 1, count 1"
abbrev pub pcs_fields : Pcs → ℕ → List Field
pcs_fields p count =
    (2, p.width)
    ∷ (2, p.height)
    ∷ (1, p.frame_rate)
    ∷ (2, p.composition_number)
    ∷ (1, p.composition_state)
    ∷ (1, p.palette_update_flag)
    ∷ (1, p.palette_id)
    ∷ (1, count)
    ∷ []

-- "id 1, x, y, width, height, 2 each"
abbrev pub window_fields : Window → List Field
window_fields w =
    (1, w.window_id) ∷ (2, w.horizontal_position) ∷ (2, w.vertical_position) ∷ (2, w.width) ∷ (2, w.height) ∷ []

-- "id 1, version 1"
abbrev pub pds_fields : Pds → List Field
pds_fields p = (1, p.palette_id) ∷ (1, p.palette_version_number) ∷ []

-- "id, Y, Cr, Cb, alpha, 1 each"
abbrev pub entry_fields : PaletteEntry → List Field
entry_fields e = (1, e.palette_entry_id) ∷ (1, e.y) ∷ (1, e.cr) ∷ (1, e.cb) ∷ (1, e.alpha) ∷ []

-- "if first, width 2 and height 2"
abbrev pub dimension_fields : Option Dimensions → List Field
dimension_fields None = []
dimension_fields (Some d) = (2, d.width) ∷ (2, d.height) ∷ []

-- "object id 2, version 1, fragment flag 1, declared length 3"
abbrev pub ods_fields : Ods → List Field
ods_fields o =
    (2, o.object_id)
    ∷ (1, o.object_version_number)
    ∷ (1, o.last_in_sequence_flag)
    ∷ (3, o.object_data_length)
    ∷ dimension_fields o.dimensions

abbrev pub body_bytes : BodyFields → List ℕ
body_bytes (pcs p ps) = written (pcs_fields p (length ps)) ++ record_bytes placement_fields ps
body_bytes (wds ws) = written ((1, length ws) ∷ []) ++ record_bytes window_fields ws
body_bytes (pds p es) = written (pds_fields p) ++ record_bytes entry_fields es
body_bytes (ods o d) = written (ods_fields o) ++ d
body_bytes end = []
body_bytes (other v d) = d

-- head and body; the size is the body's
unfoldable pub encode : SegmentFields → List ℕ
encode f = written (head_fields f.pts f.dts (kind_byte f.body) (length (body_bytes f.body))) ++ body_bytes f.body
