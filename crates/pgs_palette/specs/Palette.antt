-- The palette: from an index to its entry, and to its colour. 01, 'Plane': "Only palettes whose id the PCS names apply, in order, later
-- entries winning. An index without an entry is 00 00 00 00."
use Rattle.std.specs.Prelude.{List, [], ◌∷◌, ℕ, eqb, get_or}
use Rattle.std.proofs.Math.Option.{Option, none, some}
use Rattle.pgs_base.specs.Outcome.{pick}
use Rattle.pgs_color.specs.declared.ycbcr.Rgb8.{Rgb8}
use Rattle.pgs_palette.specs.declared.palette.Rgba8.{Rgba8}

-- a palette entry. 01, module 3: "entries: id, Y, Cr, Cb, alpha, 1 each"
pub record Entry : Type 0 where
  pub entry_id : ℕ
  pub y : ℕ
  pub cr : ℕ
  pub cb : ℕ
  pub alpha : ℕ

-- the entry of a record, whose cells are in that order
abbrev pub entry_of : List ℕ → Entry
entry_of cells = record { entry_id = get_or cells 0 0; y = get_or cells 1 0; cr = get_or cells 2 0; cb = get_or cells 3 0; alpha = get_or cells 4 0 }

-- the entries of a palette segment, of the id `palette`, that apply where the PCS names the palette `named`
abbrev pub applying : ℕ → ℕ → List Entry → List Entry
applying named palette es = pick (eqb palette named) es []

abbrev pub or_else : Option Entry → Option Entry → Option Entry
or_else (some e) o = some e
or_else none o = o

-- the entry of the index i: the last one with that id, or none
abbrev pub lookup : List Entry → ℕ → Option Entry
lookup [] i = none
lookup (e ∷ es) i = or_else (lookup es i) (pick (eqb e.entry_id i) (some e) none)

-- from Y, Cb and Cr to a colour
abbrev pub Conversion : Type 0
Conversion = ℕ → ℕ → ℕ → Rgb8

-- the colour of an entry, with its alpha unchanged
abbrev pub color_of : Conversion → Entry → Rgba8
color_of convert e =
    record {
      r = (convert e.y e.cb e.cr).r;
      g = (convert e.y e.cb e.cr).g;
      b = (convert e.y e.cb e.cr).b;
      a = e.alpha;
    }

abbrev pub transparent : Rgba8
transparent = record { r = 0; g = 0; b = 0; a = 0 }

-- f of the entry, or `other` where there is none
abbrev pub entry_or : {A : Type 0} → (Entry → A) → A → Option Entry → A
entry_or f other none = other
entry_or f other (some e) = f e

-- the colour that an index shows
abbrev pub color_at : Conversion → List Entry → ℕ → Rgba8
color_at convert es i = entry_or (color_of convert) transparent (lookup es i)
