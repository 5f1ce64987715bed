-- The list of codes: each code takes a byte at least and none that is not there, so the count of codes that bounds the definition's
-- recursion does not matter, and the list of codes is the first code and the codes of what it leaves.
-- Assumes nothing.
use mathlib.Core.Path.{◌≡◌, refl, ◌∙◌, ap}
use mathlib.Core.Bool.{Bool, true, false}
use mathlib.Core.List.{List, [], ◌∷◌}
use Prim.Native.Nat.{ℕ, zero, suc, ◌%◌, ◌≤◌, ◌<◌}
use native.Mathlib.Omega.{arith}
use lib.Dec.{eqb, ltb}
use lib.ListN.{length, drop, length-drop}
use Rattle.pgs_base.specs.Outcome.{pick}
use Rattle.pgs_run_length.specs.RunLength.{Code, FirstCode, none, found, truncated, code_of, escape_of, run_of}
use Rattle.pgs_run_length.specs.RunLength.{long_zero_run, short_color_run, long_color_run, bytes_taken, Codes}
use Rattle.pgs_run_length.specs.RunLength.{and_further, codes_within, codes_of}

-- of so many bytes a code takes one at least
data Bounded (size : ℕ) : FirstCode → Type 0 where
  nothing : Bounded size none
  within : {code : Code} (n : ℕ) → 0 < n → n ≤ size → Bounded size (found code n)
  missing : {k : ℕ} → Bounded size (truncated k)

either : {size : ℕ} (t : Bool) {a b : FirstCode} → Bounded size a → Bounded size b → Bounded size (pick t a b)
either true p q = p
either false p q = q

long-zero-bounded : (low : ℕ) (rest : List ℕ) → Bounded (suc (suc (length rest))) (long_zero_run low rest)
long-zero-bounded low [] = missing
long-zero-bounded low (b ∷ rest) = within 3 (omega arith) (omega arith)

short-color-bounded : (low : ℕ) (rest : List ℕ) → Bounded (suc (suc (length rest))) (short_color_run low rest)
short-color-bounded low [] = missing
short-color-bounded low (b ∷ rest) = within 3 (omega arith) (omega arith)

long-color-bounded : (low : ℕ) (rest : List ℕ) → Bounded (suc (suc (length rest))) (long_color_run low rest)
long-color-bounded low [] = missing
long-color-bounded low (b ∷ []) = missing
long-color-bounded low (b ∷ c ∷ rest) = within 4 (omega arith) (omega arith)

run-bounded : (second : ℕ) (rest : List ℕ) → Bounded (suc (suc (length rest))) (run_of second rest)
run-bounded second rest =
    either (ltb second 0x40) (within 2 (omega arith) (omega arith))
    (either (ltb second 0x80) (long-zero-bounded (second % 64) rest)
    (either (ltb second 0xC0) (short-color-bounded (second % 64) rest)
    (long-color-bounded (second % 64) rest)))

-- what a run took of the two bytes that it began with and two more
pub run-taken : (second third fourth : ℕ) {code : Code} {n : ℕ} → found code n ≡ run_of second (third ∷ fourth ∷ []) → (0 < n) × (n ≤ 4)
run-taken second third fourth e = both (rw (← e) at (run-bounded second (third ∷ fourth ∷ [])))
  where
    both : {code : Code} {n : ℕ} → Bounded 4 (found code n) → (0 < n) × (n ≤ 4)
    both (within _ p q) = (p, q)

escape-bounded : (rest : List ℕ) → Bounded (suc (length rest)) (escape_of rest)
escape-bounded [] = missing
escape-bounded (second ∷ rest) = either (eqb second 0) (within 2 (omega arith) (omega arith)) (run-bounded second rest)

code-bounded : (bytes : List ℕ) → Bounded (length bytes) (code_of bytes)
code-bounded [] = nothing
code-bounded (b ∷ rest) = either (eqb b 0) (escape-bounded rest) (within 1 (omega arith) (omega arith))

-- what a found code took of the bytes from a place on
pub taken-bounds : (bytes : List ℕ) {code : Code} {n : ℕ} → code_of bytes ≡ found code n → (0 < n) × (n ≤ length bytes)
taken-bounds bytes e = both (rw e at (code-bounded bytes))
  where
    both : {code : Code} {n : ℕ} → Bounded (length bytes) (found code n) → (0 < n) × (n ≤ length bytes)
    both (within _ p q) = (p, q)

-- equal codes further on make equal codes
further_same : (bytes : List ℕ) (f : FirstCode) (g h : List ℕ → Codes) → Bounded (length bytes) f
    → ((n : ℕ) → 0 < n → n ≤ length bytes → g (drop n bytes) ≡ h (drop n bytes))
    → and_further f (g (drop (bytes_taken f) bytes)) ≡ and_further f (h (drop (bytes_taken f) bytes))
further_same bytes none g h nothing s = refl
further_same bytes (found code n) g h (within _ p q) s = ap (and_further (found code n)) (s n p q)
further_same bytes (truncated k) g h missing s = refl

-- a bound on the number of codes does not matter where it is the number of bytes or more
enough : (n m : ℕ) (bytes : List ℕ) → length bytes ≤ n → length bytes ≤ m → codes_within n bytes ≡ codes_within m bytes
enough zero zero bytes p q = refl
enough zero (suc m) [] p q = refl
enough zero (suc m) (b ∷ bytes) p q = absurd (omega arith)
enough (suc n) zero [] p q = refl
enough (suc n) zero (b ∷ bytes) p q = absurd (omega arith)
enough (suc n) (suc m) bytes p q =
    further_same bytes (code_of bytes) (codes_within n) (codes_within m) (code-bounded bytes)
    (λ k positive there. enough n m (drop k bytes) (rw length-drop (omega arith)) (rw length-drop (omega arith)))

-- the first code, and the codes of what it leaves
pub codes-step : (bytes : List ℕ) → codes_of bytes ≡ and_further (code_of bytes) (codes_of (drop (bytes_taken (code_of bytes)) bytes))
unfolding codes_of
codes-step [] = refl
codes-step (b ∷ rest) =
    further_same (b ∷ rest) (code_of (b ∷ rest)) (codes_within (length rest)) codes_of (code-bounded (b ∷ rest))
    (λ k positive there. enough (length rest) (length (drop k (b ∷ rest))) (drop k (b ∷ rest)) (rw length-drop (omega arith)) (omega arith))

-- the same, by what stands at the front
pub codes-are : (bytes : List ℕ) (f : FirstCode) → code_of bytes ≡ f → codes_of bytes ≡ and_further f (codes_of (drop (bytes_taken f) bytes))
codes-are bytes f e = codes-step bytes ∙ ap (λ (g : FirstCode). and_further g (codes_of (drop (bytes_taken g) bytes))) e
