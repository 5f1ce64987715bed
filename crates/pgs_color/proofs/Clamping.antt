-- The byte of a channel sum: what the tests against 0 and 255 say of a float `fin s m e`, and what adding 0.5 leaves in range.
-- Assumes nothing.
use Rattle.std.proofs.Common.{◌≡◌, ℕ, ◌+◌, ◌*◌, ◌/◌, ◌^◌, ◌<◌, ◌≤◌, Bool, true, false, ◌&&◌, ◌||◌, T, eqb, ltb, leb, ℤ}
use Rattle.std.proofs.Common.{pos, negsuc, sym, refl, ◌∙◌, inl, inr, true≢false, div-lt_iff_lt-mul, eq-zero-or-pos}
use Rattle.std.proofs.Common.{eq-or-lt_of_le, zero-mul, mul-one, arith, lit<, lit≤, lt→ltb, ltb-false, ltb-true, le-ltb}
use Rattle.std.proofs.Common.{lt-ltb, eq-eqb, ne_eqb, le-leb, leb-false, leb-true}
use borrow.Author.Tests.{lt-leb}
use Rattle.std.proofs.Math.Bool.{and-false}
use lib.Ieee.{Float, nan, inf, fin, binary32, up, down, round, add, lt, le, of_int, to_unsigned}
use lib.Ieee.Fits.{down_pos}
use lib.Ieee.Order.{round_mono}
use lib.Ieee.Positive.{positive, between, le→cross}
use Rattle.pgs_color.specs.Sums.{whole}
use Rattle.pgs_color.specs.Bytes.{half, byte_of}

-- ---- the tests, of numbers

or-le : (a b : ℕ) → (ltb a b || (eqb a b && true)) ≡ leb a b
or-le a b = go (leb a b) refl
  where
    go : (t : Bool) → leb a b ≡ t → (ltb a b || (eqb a b && true)) ≡ t
    go false e = simp (le-ltb a b (omega (arith, leb-false a b e)), ne_eqb a b (omega (arith, leb-false a b e)))
    go true e =
        elim (eq-or-lt_of_le (leb-true a b e)) [
          | inl q ↦ simp (le-ltb a b (omega arith), eq-eqb a b q)
          | inr l ↦ simp (lt-ltb a b l)
        ]

-- ---- of a float that is not negative

module _ (m : ℕ) (e : ℤ) where
  pub zero_test : le (fin false m e) (whole 0) ≡ leb (m * up e) 0
  unfolding le of_int
  zero_test = or-le (m * up e * 1) (0 * down e) ∙ simp (mul-one, zero-mul)

  pub top-test : le (whole 255) (fin false m e) ≡ leb (255 * down e) (m * up e)
  unfolding le of_int
  top-test = or-le (255 * down e) (m * up e * 1) ∙ simp mul-one

  pub low-test : lt (whole 0) (fin false m e) ≡ ltb 0 (m * up e)
  unfolding lt of_int
  low-test = simp (mul-one, zero-mul)

-- ---- of one that is

not-above : (a b : ℕ) → b ≡ 0 → (ltb 0 (a + b) || (eqb a b && eqb a 0)) ≡ true
not-above a b z =
    elim (eq-zero-or-pos a) [
      | inl q ↦ simp (le-ltb 0 (a + b) (omega arith), eq-eqb a b (omega arith), eq-eqb a 0 q)
      | inr l ↦ simp (lt-ltb 0 (a + b) (omega arith))
    ]

module _ (m : ℕ) (e : ℤ) where
  pub zero-test-neg : le (fin true m e) (whole 0) ≡ true
  unfolding le of_int
  zero-test-neg = not-above (m * up e * 1) (0 * down e) (zero-mul (down e))

  pub top-test-neg : le (whole 255) (fin true m e) ≡ false
  unfolding le of_int
  top-test-neg = rw (ne_eqb (255 * down e) 0 (omega (arith, down_pos e))) (and-false (eqb (255 * down e) (m * up e * 1)))

  low-test-neg : lt (whole 0) (fin true m e) ≡ false
  unfolding lt of_int
  low-test-neg = refl

-- ---- at or above 255

top-inf : byte_of (inf false) ≡ 255
unfolding le of_int
top-inf = refl

no-top-nan : le (whole 255) nan ≡ false
unfolding le of_int
no-top-nan = refl

no-top-inf : le (whole 255) (inf true) ≡ false
unfolding le of_int
no-top-inf = refl

pub top : (v : Float) → le (whole 255) v ≡ true → 255 ≡ byte_of v
top nan h = absurd (true≢false (sym h ∙ no-top-nan))
top (inf true) h = absurd (true≢false (sym h ∙ no-top-inf))
top (inf false) h = sym top-inf
top (fin true m e) h = absurd (true≢false (sym h ∙ top-test-neg m e))
top (fin false m e) h =
    let over : 255 * down e ≤ m * up e = leb-true _ _ (sym (top-test m e) ∙ h) in
    let d : 0 < down e = down_pos e in
    simp (zero_test m e ∙ lt-leb (m * up e) 0 (omega arith), h)

-- ---- neither that nor above 0

bottom-nan : byte_of nan ≡ 0
unfolding le of_int add to_unsigned
bottom-nan = refl

bottom-inf : byte_of (inf true) ≡ 0
unfolding le of_int
bottom-inf = refl

over-inf : lt (whole 0) (inf false) ≡ true
unfolding lt of_int
over-inf = refl

pub bottom : (v : Float) → lt (whole 0) v ≡ false → 0 ≡ byte_of v
bottom nan h = sym bottom-nan
bottom (inf true) h = sym bottom-inf
bottom (inf false) h = absurd (true≢false (sym over-inf ∙ h))
bottom (fin true m e) h = simp (zero-test-neg m e)
bottom (fin false m e) h = simp (zero_test m e ∙ le-leb (m * up e) 0 (ltb-false _ _ (sym (low-test m e) ∙ h)))

-- ---- between: v + 0.5 lies between 1/2 and 511/2

-- what the whole part of x = v + 0.5 asks, and that it is v's byte
pub record Middle (v x : Float) : Type 0 where
  pub above : T (lt (fin true 1 (pos 0)) x)
  pub below : T (lt x (fin false 1 (pos 64)))
  pub small : to_unsigned 64 x < 256
  pub byte : to_unsigned 64 x ≡ byte_of v

-- a float above 0 and at most 511/2
module _ (m : ℕ) (e : ℤ) (h : m * up e * 2 ≤ 511 * down e) where
  over_minus_one : T (lt (fin true 1 (pos 0)) (fin false m e))
  unfolding lt
  over_minus_one = lt→ltb 0 (1 * down e + m * up e * 1) (omega (arith, down_pos e))

  under_top : T (lt (fin false m e) (fin false 1 (pos 64)))
  unfolding lt
  under_top = lt→ltb (m * up e * 1) (2 ^ 64 * down e) (omega (arith, down_pos e))

  part : m * up e / down e < 256
  part = (div-lt_iff_lt-mul (down_pos e)).1 (omega (arith, down_pos e))

  cut : (w : ℕ) → 256 ≤ 2 ^ w → to_unsigned w (fin false m e) ≡ m * up e / down e
  unfolding to_unsigned
  cut w big = omega (arith, part)

ranged : (v x : Float) → T (positive x) → T (le x (fin false 511 (negsuc 0))) → to_unsigned 8 x ≡ byte_of v → Middle v x
ranged v nan p h b = absurd p
ranged v (inf s) p h b = absurd p
ranged v (fin true m e) p h b = absurd p
ranged v (fin false m e) p h b =
    let under : m * up e * 2 ≤ 511 * down e = le→cross (fin false m e) (fin false 511 (negsuc 0)) p tt h in
    let whole64 : to_unsigned 64 (fin false m e) ≡ m * up e / down e = cut m e under 64 (lit≤ tt) in
    record {
      above = over_minus_one m e under;
      below = under_top m e under;
      small = rw whole64 (part m e under);
      byte = whole64 ∙ sym (cut m e under 8 (lit≤ tt)) ∙ b;
    }

half-positive : T (positive half)
unfolding round
half-positive = tt

-- 511/2
most-is : round binary32 false 511 2 ≡ fin false 511 (negsuc 0)
unfolding round
most-is = refl

added : (m : ℕ) (e : ℤ) → add binary32 (fin false m e) half ≡ round binary32 false (m * up e * 2 + 1 * down e) (down e * 2)
unfolding add
added m e = refl

no-low-nan : lt (whole 0) nan ≡ false
unfolding lt of_int
no-low-nan = refl

no-low-inf : lt (whole 0) (inf true) ≡ false
unfolding lt of_int
no-low-inf = refl

over-top-inf : le (whole 255) (inf false) ≡ true
unfolding le of_int
over-top-inf = refl

pub middle : (v : Float) → le (whole 255) v ≡ false → lt (whole 0) v ≡ true → Middle v (add binary32 v half)
middle nan h k = absurd (true≢false (sym k ∙ no-low-nan))
middle (inf true) h k = absurd (true≢false (sym k ∙ no-low-inf))
middle (inf false) h k = absurd (true≢false (sym over-top-inf ∙ h))
middle (fin true m e) h k = absurd (true≢false (sym k ∙ low-test-neg m e))
middle (fin false m e) h k =
    let n : ℕ = m * up e in
    let d : ℕ = down e in
    let pos-d : 0 < d = down_pos e in
    let low : 0 < n = ltb-true _ _ (sym (low-test m e) ∙ k) in
    let high : n < 255 * d = leb-false _ _ (sym (top-test m e) ∙ h) in
    let x : Float = add binary32 (fin false m e) half in
    let from : T (le half x) = rw added (round_mono binary32 1 2 (n * 2 + 1 * d) (d * 2) (lit< tt) (omega arith) (omega arith)) in
    let to : T (le x (fin false 511 (negsuc 0))) =
    rw (added, ← most-is) (round_mono binary32 (n * 2 + 1 * d) (d * 2) 511 2 (omega arith) (lit< tt) (omega arith)) in
    ranged (fin false m e) x (between half x (fin false 511 (negsuc 0)) half-positive tt from to) to
    (simp (zero_test m e ∙ lt-leb (m * up e) 0 low, h))
