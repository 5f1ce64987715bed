-- Laws of big-endian numbers, over the width. Assumes nothing.
use mathlib.Core.Path.{◌≡◌, refl, sym, ap, ◌∙◌}
use mathlib.Core.List.{List, [], ◌∷◌, ◌++◌}
use Prim.Native.Nat.{ℕ, zero, suc, ◌+◌, ◌≤◌, ◌<◌}
use native.Mathlib.Nat.{add-suc}
use native.Mathlib.Numerals.{add-one}
use native.Mathlib.Omega.{arith}
use lib.ListN.{length, take, drop, get_or, length-drop, take-append-drop}
use lib.Seq.{drop-cons, take-append-le, drop-append-le, length-take-le}
use Rattle.pgs_base.specs.Bytes.{big, num}

-- the w elements from place `at + i`, one by one
abbrev pub more : ℕ → ℕ → ℕ → List ℕ → List ℕ
more i zero at l = []
more i (suc w) at l = get_or l (at + i) 0 ∷ more (suc i) w at l

-- the w elements from place `at`, one by one
abbrev pub cells : ℕ → ℕ → List ℕ → List ℕ
cells zero at l = []
cells (suc w) at l = get_or l at 0 ∷ more 1 w at l

more-are : (w i at : ℕ) (l : List ℕ) → at + i + w ≤ length l → take w (drop (at + i) l) ≡ more i w at l
more-are zero i at l h = refl
more-are (suc w) i at l h =
    rw (drop-cons l (at + i) 0 (omega arith), ← add-suc at i)
    (ap (λ (t : List ℕ). get_or l (at + i) 0 ∷ t) (more-are w (suc i) at l (omega arith)))

pub cells_are : (w at : ℕ) (l : List ℕ) → at + w ≤ length l → take w (drop at l) ≡ cells w at l
cells_are zero at l h = refl
cells_are (suc w) at l h =
    rw (drop-cons l at 0 (omega arith), ← add-one at) (ap (λ (t : List ℕ). get_or l at 0 ∷ t) (more-are w 1 at l (omega arith)))

-- a number read byte by byte
pub num-cells : (w at : ℕ) (l : List ℕ) → at + w ≤ length l → big (cells w at l) ≡ num w at l
unfolding num
num-cells w at l h = ap big (sym (cells_are w at l h))

-- a number of one byte is the byte
pub num-byte : (at : ℕ) (l : List ℕ) → at < length l → get_or l at 0 ≡ num 1 at l
num-byte at l h = omega (arith, num-cells 1 at l (omega arith))

-- a number depends on its own bytes alone
pub num-append : (w at : ℕ) (xs ys : List ℕ) → at + w ≤ length xs → num w at (xs ++ ys) ≡ num w at xs
unfolding num
num-append w at xs ys h =
    rw (drop-append-le at xs ys (omega arith), take-append-le w (drop at xs) ys (rw length-drop (omega arith)))

pub num-take : (w at n : ℕ) (l : List ℕ) → at + w ≤ n → n ≤ length l → num w at (take n l) ≡ num w at l
num-take w at n l h q =
    sym (num-append w at (take n l) (drop n l) (rw (length-take-le n l q) h)) ∙ ap (num w at) (take-append-drop n l)
