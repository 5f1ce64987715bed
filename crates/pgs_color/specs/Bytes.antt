-- The byte of a channel sum. 01, 'Colour': "At or below 0 gives 0; at or above 255 gives 255; else add 0.5 in f32 and drop the fraction."
use Rattle.std.specs.Prelude.{ℕ, false, Float}
use Rattle.std.specs.Float.{binary32}
use Rattle.std.specs.Float.Ieee.{round, add, le, to_unsigned}
use Rattle.pgs_base.specs.Outcome.{pick}
use Rattle.pgs_color.specs.Sums.{whole, sums_of}
use Rattle.pgs_color.specs.declared.ycbcr.ChannelSums.{ChannelSums}
use Rattle.pgs_color.specs.declared.ycbcr.Rgb8.{Rgb8}

-- 0.5
abbrev pub half : Float
half = round binary32 false 1 2

-- a NaN, which no sum is, passes neither test and has the byte 0
abbrev pub byte_of : Float → ℕ
byte_of v = pick (le v (whole 0)) 0 (pick (le (whole 255) v) 255 (to_unsigned 8 (add binary32 v half)))

abbrev pub clamped_of : ChannelSums → Rgb8
clamped_of s = record { r = byte_of s.r; g = byte_of s.g; b = byte_of s.b }

-- the colour of Y, Cb and Cr
abbrev pub rgb_of : ℕ → ℕ → ℕ → Rgb8
rgb_of y cb cr = clamped_of (sums_of y cb cr)
