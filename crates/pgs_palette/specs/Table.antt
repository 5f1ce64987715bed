-- A palette as lent bytes: R, G, B and alpha for each index from 0 to 255.
use Rattle.std.specs.Prelude.{◌≡◌, List, [], ◌∷◌, ◌++◌, ℕ, zero, suc, ◌+◌, ◌*◌, Bool, leb, length, get_or, take, drop, replicate}
use Rattle.std.proofs.Math.Option.{Option}
use Rattle.pgs_base.specs.Outcome.{Verdict, unless, pick}
use Rattle.pgs_palette.specs.Palette.{Entry, lookup, Conversion, color_of, entry_or}
use Rattle.pgs_palette.specs.declared.palette.Rgba8.{Rgba8}

-- 01, 'Plane': "Pixels are R, G, B, alpha"
abbrev pub pixel_of : Rgba8 → List ℕ
pixel_of c = c.r ∷ c.g ∷ c.b ∷ c.a ∷ []

-- a pixel where an entry was given, else what stood there
abbrev pub pixel_over : Conversion → Option Entry → List ℕ → List ℕ
pixel_over convert o old = entry_or (λ e. pixel_of (color_of convert e)) old o

-- entries laid over n pixels of a table, from the index i on; what is behind them stays
unfoldable pub laid_from : Conversion → List Entry → ℕ → ℕ → List ℕ → List ℕ
laid_from convert es zero i t = t
laid_from convert es (suc n) i t = pixel_over convert (lookup es i) (take 4 t) ++ laid_from convert es n (suc i) (drop 4 t)

-- entries laid over a table
unfoldable pub laid : Conversion → List Entry → List ℕ → List ℕ
laid convert es t = laid_from convert es 256 0 t

-- a table in which no index has an entry: 00 00 00 00 for each
unfoldable pub cleared : List ℕ → List ℕ
cleared t = replicate 1024 0 ++ drop 1024 t

-- the pixel of the index i
abbrev pub pixel_at : List ℕ → ℕ → Rgba8
pixel_at t i = record { r = get_or t (i * 4) 0; g = get_or t (i * 4 + 1) 0; b = get_or t (i * 4 + 2) 0; a = get_or t (i * 4 + 3) 0 }

-- a table needs four bytes for each of the 256 indices: 34 where it has fewer
abbrev pub holds : List ℕ → Bool
holds t = leb 1024 (length t)

-- a call that changes a lent table by `change`, or refuses it and leaves it
pub record Updates (change : List ℕ → List ℕ) (answer : Verdict) (before after : List ℕ) : Type 0 where
  pub verdict : answer ≡ unless 34 (holds before)
  pub table : after ≡ pick (holds before) (change before) before
