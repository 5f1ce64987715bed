-- Storing a bitmap whose data stands in the memory that its pixels go to. 01, 'Why a call is turned down': "painting leaves joined
-- data, then the bitmaps in order, in the scratch."
use Rattle.std.specs.Prelude.{Bool, ◌&&◌, List, ◌++◌, ℕ, ◌+◌, ◌-◌, leb, length, take, drop}
use Rattle.pgs_base.specs.Outcome.{pick}
use Rattle.pgs_bitmap_check.specs.Bitmap.{bitmap_of}

-- so many bytes from a place on
abbrev pub part_at : List ℕ → (place len : ℕ) → List ℕ
part_at memory place len = take len (drop place memory)

-- new bytes for so many from a place on, all others as they were
abbrev pub put_at : (at size : ℕ) → (new old : List ℕ) → List ℕ
put_at at size new old = take at old ++ (new ++ drop (at + size) old)

-- Whether the pixels begin after the data, inside a memory of this size; then the data lies inside it too.
abbrev pub room_for : (size place len at : ℕ) → Bool
room_for size place len at = leb (place + len) at && leb at size

-- as many pixels as a memory of this size has from `at` on
abbrev pub shown_from : (size at : ℕ) → List ℕ → List ℕ
shown_from size at pixels = take (size - at) pixels

-- What `store_within` leaves: as many pixels of the data as there is room for, from `at` on, and all other bytes as they were. Where the
-- data does not end before `at`, or `at` is past the end of the memory, nothing is changed. Of data that is refused for a code with bytes
-- missing these are the pixels of the codes before it; lines play no part.
abbrev pub stored_within : List ℕ → (place len at : ℕ) → List ℕ
stored_within memory place len at =
    pick (room_for (length memory) place len at)
    (put_at at (length (shown_from (length memory) at (bitmap_of (part_at memory place len)))) (shown_from (length memory) at (bitmap_of (part_at memory place len))) memory)
    memory
