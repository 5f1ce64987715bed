-- The palette of a display set. 01, 'Plane': "Only palettes whose id the PCS names apply, in order, later entries winning. An index
-- without an entry is 00 00 00 00."
use Rattle.std.specs.Prelude.{List, [], ◌∷◌, ◌++◌, map, ℕ, replicate}
use Rattle.pgs_base.specs.Outcome.{pick}
pub use Rattle.pgs_views.specs.Kinds.{is_pds}
use Rattle.pgs_segment.specs.OneSegment.{segment_type, body_at}
use Rattle.pgs_pds.specs.PdsBody.{entry_rows, pds_of}
use Rattle.pgs_palette.specs.Palette.{Entry, entry_of, applying, Conversion, color_at}
use Rattle.pgs_palette.specs.Table.{pixel_of}

-- the entries of a palette segment's body
abbrev pub entries_in : List ℕ → List Entry
entries_in body = map entry_of (entry_rows body)

-- those that apply, where the PCS names the palette `named`
abbrev pub entries_named : ℕ → List ℕ → List Entry
entries_named named body = applying named (pds_of body).palette_id (entries_in body)

-- the entries of segments, in order
abbrev pub entries_among : ℕ → List (List ℕ) → List Entry
entries_among named [] = []
entries_among named (x ∷ xs) = pick (is_pds (segment_type x)) (entries_named named (body_at x)) [] ++ entries_among named xs

-- a table in which no index has an entry: 00 00 00 00 for each
unfoldable pub empty_table : List ℕ
empty_table = replicate 1024 0

-- the four bytes that an index shows: "Pixels are R, G, B, alpha"
abbrev pub color_shown : Conversion → List Entry → ℕ → List ℕ
color_shown convert es i = pixel_of (color_at convert es i)
