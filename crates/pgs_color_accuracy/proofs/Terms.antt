-- The five terms of the sums, each a function of one byte: at each of the 256 bytes the float is near the exact term, by one computed test
-- for each term and one law that turns the test into the rule.
-- Assumes nothing.
use mathlib.Core.Path.{refl, sym, subst}
use mathlib.Core.Bool.{Bool, true, false, ◌&&◌}
use mathlib.Core.Logic.{inl, inr}
use Prim.Native.Nat.{ℕ, zero, suc, ◌+◌, ◌-◌, ◌*◌, ◌/◌, ◌^◌, ◌≤◌, ◌<◌}
use native.Mathlib.Nat.{eq-or-lt_of_le, le_of_suc-le-suc, not-suc-le-zero}
use native.Mathlib.Omega.{arith}
use lib.Dec.{T, leb, eqb, leb→le, eqb→eq}
use lib.IntN.{ℤ}
use lib.Ieee.{Float, nan, inf, fin, up, down, sub, mul, div, of_int}
use lib.Ieee.Fits.{and_l, and_r}
use Rattle.pgs_color.specs.Sums.{decimal, luma, chroma}
use Rattle.pgs_color_accuracy.specs.Exact.{decimals, scale_of}
use Rattle.pgs_color_accuracy.proofs.Grid.{Place, At}

-- ---- a test at every number below n

abbrev all : (ℕ → Bool) → ℕ → Bool
all f zero = true
all f (suc n) = f n && all f n

all-below : (f : ℕ → Bool) (n : ℕ) → T (all f n) → (k : ℕ) → k < n → T (f k)
all-below f zero t k h = absurd (not-suc-le-zero h)
all-below f (suc n) t k h =
    elim (eq-or-lt_of_le (le_of_suc-le-suc h)) [
      | inl e ↦ subst (λ (m : ℕ). T (f m)) (sym e) (and_l (f n) (all f n) t)
      | inr l ↦ all-below f n (and_r (f n) (all f n) t) k l
    ]

-- ---- a float near a difference

-- the scale of the exact values
abbrev pub scale : ℕ
scale = scale_of decimals

-- x is at a place within 2,300 · 2^-26 of (p - q) / scale, and below 300 in size
pub record Term (x : Float) (p q : ℕ) : Type 0 where
  pub place : ℕ
  pub at : At x place
  pub not_above : place * scale + q * 2 ^ 26 ≤ p * 2 ^ 26 + 2 ^ 40 * scale + 2300 * scale
  pub not_below : p * 2 ^ 26 + 2 ^ 40 * scale ≤ place * scale + q * 2 ^ 26 + 2300 * scale
  pub low : 2 ^ 40 ≤ place + 300 * 2 ^ 26
  pub high : place ≤ 2 ^ 40 + 300 * 2 ^ 26

-- the place of an amount
abbrev place_of : Bool → ℕ → ℕ
place_of false a = 2 ^ 40 + a
place_of true a = 2 ^ 40 - a

-- m · 2^e is a · 2^-26, and its place n is near
abbrev near : ℕ → ℕ → ℕ → Bool
near n p q =
    leb (n * scale + q * 2 ^ 26) (p * 2 ^ 26 + 2 ^ 40 * scale + 2300 * scale)
    && leb (p * 2 ^ 26 + 2 ^ 40 * scale) (n * scale + q * 2 ^ 26 + 2300 * scale)

abbrev on_grid : ℕ → ℤ → ℕ → Bool
on_grid m e a = eqb (m * up e * 2 ^ 26) (a * down e) && leb a (300 * 2 ^ 26)

-- the test
abbrev tested : Float → ℕ → ℕ → Bool
tested nan p q = false
tested (inf s) p q = false
tested (fin s m e) p q = let a = m * up e * 2 ^ 26 / down e in on_grid m e a && near (place_of s a) p q

placed : (s : Bool) (a : ℕ) → a ≤ 300 * 2 ^ 26 → Place s a (place_of s a)
placed false a h = refl
placed true a h = omega arith

place-low : (s : Bool) (a : ℕ) → a ≤ 300 * 2 ^ 26 → 2 ^ 40 ≤ place_of s a + 300 * 2 ^ 26
place-low false a h = omega arith
place-low true a h = omega arith

place-high : (s : Bool) (a : ℕ) → a ≤ 300 * 2 ^ 26 → place_of s a ≤ 2 ^ 40 + 300 * 2 ^ 26
place-high false a h = omega arith
place-high true a h = omega arith

term-at : (s : Bool) (m : ℕ) (e : ℤ) (a p q : ℕ) → T (on_grid m e a && near (place_of s a) p q) → Term (fin s m e) p q
term-at s m e a p q t =
    let n = place_of s a in
    let grid = and_l (on_grid m e a) (near n p q) t in
    let close = and_r (on_grid m e a) (near n p q) t in
    let small : a ≤ 300 * 2 ^ 26 = leb→le a (300 * 2 ^ 26) (and_r (eqb (m * up e * 2 ^ 26) (a * down e)) (leb a (300 * 2 ^ 26)) grid) in
    let above : Bool = leb (n * scale + q * 2 ^ 26) (p * 2 ^ 26 + 2 ^ 40 * scale + 2300 * scale) in
    let below : Bool = leb (p * 2 ^ 26 + 2 ^ 40 * scale) (n * scale + q * 2 ^ 26 + 2300 * scale) in
    record {
      place = n;
      at =
          record {
            sign = s;
            amount = a;
            value = (refl, eqb→eq (m * up e * 2 ^ 26) (a * down e) (and_l (eqb (m * up e * 2 ^ 26) (a * down e)) (leb a (300 * 2 ^ 26)) grid));
            place = placed s a small;
          };
      not_above = leb→le _ _ (and_l above below close);
      not_below = leb→le _ _ (and_r above below close);
      low = place-low s a small;
      high = place-high s a small;
    }

term_of : (x : Float) (p q : ℕ) → T (tested x p q) → Term x p q
term_of nan p q t = absurd t
term_of (inf s) p q t = absurd t
term_of (fin s m e) p q t = term-at s m e (m * up e * 2 ^ 26 / down e) p q t

-- ---- the five terms: (Y - 16) · 255 · 224 · 10000, and k · (C - 128) · 255 · 219 for each decimal

luma-tests : T (all (λ y. tested (luma y) (255 * 224 * decimals.over * y) (255 * 224 * decimals.over * 16)) 256)
unfolding mul sub div of_int
luma-tests = tt

pub luma-term : (y : ℕ) → y < 256 → Term (luma y) (255 * 224 * decimals.over * y) (255 * 224 * decimals.over * 16)
luma-term y h =
    term_of (luma y) _ _ (all-below (λ y. tested (luma y) (255 * 224 * decimals.over * y) (255 * 224 * decimals.over * 16)) 256 luma-tests y h)

-- d is the float of a decimal, k the decimal's whole number
abbrev chroma_test : Float → ℕ → ℕ → Bool
chroma_test d k c = tested (chroma d c) (255 * 219 * k * c) (255 * 219 * k * 128)

chroma-term : (d : Float) (k : ℕ) → T (all (chroma_test d k) 256) → (c : ℕ) → c < 256 → Term (chroma d c) (255 * 219 * k * c) (255 * 219 * k * 128)
chroma-term d k t c h = term_of (chroma d c) _ _ (all-below (chroma_test d k) 256 t c h)

red-cr-tests : T (all (chroma_test (decimal 15748) decimals.red_cr) 256)
unfolding mul sub div of_int
red-cr-tests = tt

green-cb-tests : T (all (chroma_test (decimal 1873) decimals.green_cb) 256)
unfolding mul sub div of_int
green-cb-tests = tt

green-cr-tests : T (all (chroma_test (decimal 4681) decimals.green_cr) 256)
unfolding mul sub div of_int
green-cr-tests = tt

blue-cb-tests : T (all (chroma_test (decimal 18556) decimals.blue_cb) 256)
unfolding mul sub div of_int
blue-cb-tests = tt

-- the exact value of a term of chroma
abbrev ChromaTerm : ℕ → ℕ → ℕ → Type 0
ChromaTerm n k c = Term (chroma (decimal n) c) (255 * 219 * k * c) (255 * 219 * k * 128)

pub red-cr : (c : ℕ) → c < 256 → ChromaTerm 15748 decimals.red_cr c
red-cr = chroma-term (decimal 15748) decimals.red_cr red-cr-tests

pub green-cb : (c : ℕ) → c < 256 → ChromaTerm 1873 decimals.green_cb c
green-cb = chroma-term (decimal 1873) decimals.green_cb green-cb-tests

pub green-cr : (c : ℕ) → c < 256 → ChromaTerm 4681 decimals.green_cr c
green-cr = chroma-term (decimal 4681) decimals.green_cr green-cr-tests

pub blue-cb : (c : ℕ) → c < 256 → ChromaTerm 18556 decimals.blue_cb c
blue-cb = chroma-term (decimal 18556) decimals.blue_cb blue-cb-tests
