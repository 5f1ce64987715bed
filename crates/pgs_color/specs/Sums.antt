-- The three channel sums before clamping, as IEEE 754 expressions at binary32. 01, 'Colour': "Decimals are taken as their nearest f32.
-- Quotients come first, products and sums from the left, each operation rounded once to f32, in this order."
-- ITU-R BT.709 decides which chroma feeds which colour.
use Rattle.std.specs.Prelude.{ℕ, false, pos, Float}
use Rattle.std.specs.Float.{binary32}
use Rattle.std.specs.Float.Ieee.{round, add, sub, mul, div, of_int}
use Rattle.pgs_color.specs.declared.ycbcr.ChannelSums.{ChannelSums}

-- a whole number as an f32
abbrev pub whole : ℕ → Float
whole n = of_int binary32 (pos n)

-- n ten-thousandths as the nearest f32
abbrev pub decimal : ℕ → Float
decimal n = round binary32 false n 10000

-- yf = (Y−16)·(255/219)
abbrev pub luma : ℕ → Float
luma y = mul binary32 (sub binary32 (whole y) (whole 16)) (div binary32 (whole 255) (whole 219))

-- a decimal·(C−128)·(255/224)
abbrev pub chroma : Float → ℕ → Float
chroma d c = mul binary32 (mul binary32 d (sub binary32 (whole c) (whole 128))) (div binary32 (whole 255) (whole 224))

-- R = yf + 1.5748·(Cr−128)·(255/224)
abbrev pub red_sum : ℕ → ℕ → Float
red_sum y cr = add binary32 (luma y) (chroma (decimal 15748) cr)

-- G = yf − 0.1873·(Cb−128)·(255/224) − 0.4681·(Cr−128)·(255/224)
abbrev pub green_sum : ℕ → ℕ → ℕ → Float
green_sum y cb cr = sub binary32 (sub binary32 (luma y) (chroma (decimal 1873) cb)) (chroma (decimal 4681) cr)

-- B = yf + 1.8556·(Cb−128)·(255/224)
abbrev pub blue_sum : ℕ → ℕ → Float
blue_sum y cb = add binary32 (luma y) (chroma (decimal 18556) cb)

abbrev pub sums_of : ℕ → ℕ → ℕ → ChannelSums
sums_of y cb cr = record { r = red_sum y cr; g = green_sum y cb cr; b = blue_sum y cb }
