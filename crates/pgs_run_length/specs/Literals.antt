-- Bytes that are one pixel each: 01, 'Run-length code', "A nonzero byte is one pixel."
use Rattle.std.specs.Prelude.{◌≡◌, Bool, true, not, ◌&&◌, List, ℕ, zero, suc, ◌+◌, ◌<◌, eqb, get_or}

-- so many bytes from a place on are there and are nonzero: what is not there counts as 0
abbrev pub literals : List ℕ → (at n : ℕ) → Bool
literals bytes at zero = true
literals bytes at (suc n) = literals bytes at n && not (eqb (get_or bytes (at + n) 0) 0)

-- the same as a fact of each byte
abbrev pub Literals : List ℕ → (at n : ℕ) → Type 0
Literals bytes at n = (k : ℕ) → k < n → get_or bytes (at + k) 0 ≡ 0 → ⊥
