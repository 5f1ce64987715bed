-- The accuracy rule. 01, 'Colour': "Each byte lies within 1/2 + 1/1000 of the exact value (same decimals, no rounding) clamped to 0..255."
use Rattle.std.specs.Prelude.{ℕ, ◌+◌, ◌*◌, ◌≤◌, ◌<◌, min, ℤ, pos, negsuc}
use Rattle.pgs_color_accuracy.specs.Exact.{Decimals, decimals, scale_of, exact_red, exact_green, exact_blue}
use Rattle.pgs_color.specs.declared.ycbcr.Rgb8.{Rgb8}

-- z over the scale s, clamped to 0..255
abbrev pub clamped : ℕ → ℤ → ℕ
clamped s (pos n) = min n (255 * s)
clamped s (negsuc n) = 0

-- the byte b lies within num / den of z over the scale s, clamped
pub record Within (num den s b : ℕ) (z : ℤ) : Type 0 where
  pub not_above : b * s * den ≤ clamped s z * den + num * s
  pub not_below : clamped s z * den ≤ b * s * den + num * s

-- each byte of a colour lies within num / den of its exact value
pub record Near (num den : ℕ) (d : Decimals) (y cb cr : ℕ) (c : Rgb8) : Type 0 where
  pub red : Within num den (scale_of d) c.r (exact_red d y cr)
  pub green : Within num den (scale_of d) c.g (exact_green d y cb cr)
  pub blue : Within num den (scale_of d) c.b (exact_blue d y cb)

-- 1/2 + 1/1000, in thousandths
abbrev pub tolerance : ℕ
tolerance = 501

-- the rule for a conversion of Y, Cb and Cr
abbrev pub Accurate : (ℕ → ℕ → ℕ → Rgb8) → Type 0
Accurate convert = (y cb cr : ℕ) → y < 256 → cb < 256 → cr < 256 → Near tolerance 1000 decimals y cb cr (convert y cb cr)
