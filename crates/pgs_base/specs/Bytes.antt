-- The number that bytes stand for. 01: "Multi-byte fields are big-endian."
use Rattle.std.specs.Prelude.{ℕ, zero, suc, ◌+◌, ◌*◌, ◌/◌, ◌%◌, ◌^◌, ◌<◌, List, [], ◌∷◌, ◌++◌, length, take, drop, get_or}

-- the first byte counts most
abbrev pub big : List ℕ → ℕ
big [] = 0
big (b ∷ bs) = b * 256 ^ length bs + big bs

-- the number in the w bytes from place `at` of l; of a list that ends before, in those that are there: no call that can refuse rests an
-- accepted answer on that
unfoldable pub num : ℕ → ℕ → List ℕ → ℕ
num w at l = big (take w (drop at l))

-- a number in w bytes
abbrev pub bytes_of : ℕ → ℕ → List ℕ
bytes_of zero n = []
bytes_of (suc w) n = bytes_of w (n / 256) ++ (n % 256 ∷ [])

-- a list of bytes
abbrev pub Bytes : List ℕ → Type 0
Bytes l = (i : ℕ) → get_or l i 0 < 256
