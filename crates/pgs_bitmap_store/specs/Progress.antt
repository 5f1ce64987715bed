-- How far storing a bitmap has come, for the contracts of private functions.
use Rattle.std.specs.Prelude.{◌≡◌, List, ◌++◌, ℕ, ◌+◌, ◌-◌, ◌≤◌, ◌<◌, length, get_or, take, drop, replicate}
use Rattle.pgs_bitmap_check.specs.Bitmap.{bitmap_of}
use Rattle.pgs_bitmap_store.specs.declared.bitmap.Spot.{Spot}

-- so many pixels further on, after so many bytes
abbrev pub further : Spot → (pixels bytes : ℕ) → Spot
further spot pixels bytes = record { at = spot.at + bytes; out = spot.out + pixels }

-- a code that begins with the byte 00 stands at a place, and its second byte is from `low` to below `high`
pub record Escape (bytes : List ℕ) (at low high : ℕ) : Type 0 where
  pub zero : get_or bytes at 0 ≡ 0
  pub from_low : low ≤ get_or bytes (at + 1) 0
  pub to_high : get_or bytes (at + 1) 0 < high

-- A run is filled from a place on as far as there is room, to the place `to`.
pub record Filled (before : List ℕ) (from count color to : ℕ) (after : List ℕ) : Type 0 where
  pub order : from ≤ to
  pub inside : to ≤ length before
  pub most : to ≤ from + count
  pub all : to < from + count → to ≡ length before
  pub front : take to after ≡ take from before ++ replicate (to - from) color

-- The pixels of the codes before a spot are stored at the front; those from the spot on are still to come, as many as there is room for.
pub record Storing (bytes now : List ℕ) (spot : Spot) : Type 0 where
  pub within : spot.at ≤ length bytes
  pub inside : spot.out ≤ length now
  pub done : take (length now) (take spot.out now ++ bitmap_of (drop spot.at bytes)) ≡ take (length now) (bitmap_of bytes)

-- all pixels that there is room for are stored, and fill the front up to a place
pub record Stored (bytes now : List ℕ) (end : ℕ) : Type 0 where
  pub inside : end ≤ length now
  pub done : take end now ≡ take (length now) (bitmap_of bytes)
