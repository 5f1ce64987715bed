-- What storing a bitmap leaves in the pixels lent to it.
use Rattle.std.specs.Prelude.{List, ◌++◌, ℕ, ◌-◌, length, take, drop, replicate}

-- What `store_pixels` leaves of these pixels over those that were there: as many as there is room for, then what stood behind them. Where the
-- data is refused, these are the pixels of all codes before one that has bytes missing; lines play no part.
abbrev pub laid_over : (pixels old : List ℕ) → List ℕ
laid_over pixels old = take (length old) pixels ++ drop (length (take (length old) pixels)) old

-- What `store_rle` leaves in so many pixels: as many of these as there is room for, then 0.
abbrev pub padded_to : ℕ → List ℕ → List ℕ
padded_to room pixels = take room pixels ++ replicate (room - length pixels) 0
