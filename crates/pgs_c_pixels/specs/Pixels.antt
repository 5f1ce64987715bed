-- The calls for bitmaps, colours and palettes: `pgs_decode_rle`, `pgs_ycbcr709_to_rgb`, `pgs_clear_palette`, `pgs_apply_palette`.
use Rattle.std.specs.Prelude.{ℕ, ◌+◌, ◌*◌, ◌≡◌, List, length}
use Rattle.pgs_base.specs.Outcome.{unless, pick, laid}
use Rattle.pgs_bitmap_check.specs.Bitmap.{bitmap_of}
use Rattle.pgs_bitmap.specs.Decoding.{decode_verdict}
use Rattle.pgs_calls.specs.Calls.{code_of}
use Rattle.pgs_palette.specs.Table.{holds}
use Rattle.pgs_color.specs.declared.ycbcr.Rgb8.{Rgb8}

-- a bitmap: its pixels
pub record BitmapCall (bytes : List ℕ) (width height : ℕ) (pixels pixels' : List ℕ) (r : ℕ) : Type 0 where
  pub code : r ≡ code_of (decode_verdict bytes width height (length pixels))
  pub stored : pixels' ≡ laid (decode_verdict bytes width height (length pixels)) (bitmap_of bytes) pixels

-- R·65536 + G·256 + B
abbrev pub packed : Rgb8 → ℕ
packed c = c.r * 65536 + c.g * 256 + c.b

-- a palette table that is changed, or refused with 34 and left
pub record TableCall (change : List ℕ → List ℕ) (table table' : List ℕ) (r : ℕ) : Type 0 where
  pub code : r ≡ code_of (unless 34 (holds table))
  pub changed : table' ≡ pick (holds table) (change table) table
