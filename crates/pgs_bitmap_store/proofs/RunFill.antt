-- A run of one value stored into the middle of a buffer, and what it leaves.
-- Assumes nothing.
use mathlib.Core.Path.{◌≡◌, sym, ap, ◌∙◌}
use mathlib.Core.List.{List, ◌++◌, append_assoc}
use Prim.Native.Nat.{ℕ, ◌+◌, ◌-◌, ◌≤◌, ◌<◌}
use native.Mathlib.Numerals.{add-one}
use native.Mathlib.Omega.{arith}
use lib.ListN.{length, take, drop, set, replicate, length-replicate, replicate-append-replicate}
use lib.Seq.{length-take-le, take_at, take-append-add, take-suc-set}

-- the front of a longer run is a run
take-run : (count n value : ℕ) (rest : List ℕ) → count ≤ n → take count (replicate n value ++ rest) ≡ replicate count value
take-run count n value rest h =
    let parts : replicate count value ++ replicate (n - count) value ≡ replicate n value
    = replicate-append-replicate count (n - count) value ∙ ap (λ (m : ℕ). replicate m value) {x = count + (n - count)} {y = n} (omega arith) in
    rw (← parts, append_assoc, take_at (replicate count value) (replicate (n - count) value ++ rest) count (length-replicate count value))

-- a longer run from a place on has the run at its front
pub run-in-front : (start after : List ℕ) (from count n value : ℕ) → count ≤ n → from ≤ length start
    → after ≡ take from start ++ (replicate n value ++ drop n (drop from start)) → take (from + count) after ≡ take from start ++ replicate count value
run-in-front start after from count n value h there is =
    let front : length (take from start) ≡ from = length-take-le from start there in
    rw is (ap (λ (m : ℕ). take (m + count) (take from start ++ (replicate n value ++ drop n (drop from start)))) (sym front)
    ∙ take-append-add (take from start) (replicate n value ++ drop n (drop from start)) count
    ∙ ap (λ (m : List ℕ). take from start ++ m) (take-run count n value (drop n (drop from start)) h))

-- a run of one
pub one-in-front : (start : List ℕ) (from value : ℕ) → from < length start
    → take (from + 1) (set start from value) ≡ take from start ++ replicate 1 value
one-in-front start from value there = rw (add-one, take-suc-set start from value there)
