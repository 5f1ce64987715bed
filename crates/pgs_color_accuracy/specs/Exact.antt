-- The exact value of a channel. 01, 'Colour': "the exact value (same decimals, no rounding)". It is a whole number over `scale_of`.
use Rattle.std.specs.Prelude.{ℕ, ◌*◌, ℤ, pos, ◌+ℤ◌, ◌-ℤ◌, ◌*ℤ◌}
use Rattle.std.proofs.Math.IntN.{sub_ℕ}

-- the decimals of the sums, as whole numbers over `over`
pub record Decimals : Type 0 where
  pub red_cr : ℕ
  pub green_cb : ℕ
  pub green_cr : ℕ
  pub blue_cb : ℕ
  pub over : ℕ

-- 1.5748, 0.1873, 0.4681 and 1.8556
abbrev pub decimals : Decimals
decimals = record { red_cr = 15748; green_cb = 1873; green_cr = 4681; blue_cb = 18556; over = 10000 }

abbrev pub scale_of : Decimals → ℕ
scale_of d = 219 * 224 * d.over

-- (Y−16)·(255/219), over the scale
abbrev pub exact_luma : Decimals → ℕ → ℤ
exact_luma d y = pos (255 * 224 * d.over) *ℤ sub_ℕ y 16

-- k·(C−128)·(255/224), over the scale
abbrev pub exact_chroma : ℕ → ℕ → ℤ
exact_chroma k c = pos (255 * 219 * k) *ℤ sub_ℕ c 128

abbrev pub exact_red : Decimals → ℕ → ℕ → ℤ
exact_red d y cr = exact_luma d y +ℤ exact_chroma d.red_cr cr

abbrev pub exact_green : Decimals → ℕ → ℕ → ℕ → ℤ
exact_green d y cb cr = exact_luma d y -ℤ exact_chroma d.green_cb cb -ℤ exact_chroma d.green_cr cr

abbrev pub exact_blue : Decimals → ℕ → ℕ → ℤ
exact_blue d y cb = exact_luma d y +ℤ exact_chroma d.blue_cb cb
