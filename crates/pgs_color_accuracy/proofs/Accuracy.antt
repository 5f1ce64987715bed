-- The accuracy rule holds for all Y, Cb and Cr: each byte of the conversion lies within 1/2 + 1/1000 of the exact value, clamped to 0..255.
-- The route: each term is near its exact value (Terms), each sum is off by one rounding more (Grid), and the byte by one half and a rounding.
-- Assumes nothing.
use mathlib.Core.Path.{◌≡◌, refl, sym, subst}
use mathlib.Core.Bool.{Bool, true, false}
use Prim.Native.Nat.{ℕ, ◌+◌, ◌-◌, ◌*◌, ◌/◌, ◌^◌, ◌≤◌, ◌<◌, min, max}
use native.Mathlib.Nat.{zero-mul, lt_irrefl, mul_assoc, le_of_mul-le-mul_right, lt_of_mul-lt-mul_right}
use native.Mathlib.Omega.{arith}
use borrow.Author.Tests.{leb-true, leb-false}
use lib.Dec.{leb, lit<}
use lib.IntN.{ℤ}
use lib.Ieee.{Float, nan, inf, fin, binary32, up, down, round, add, sub, to_unsigned}
use lib.Ieee.Fits.{down_pos}
use lib.Ieee.Nearest.{div_same}
use Rattle.pgs_base.specs.Outcome.{pick}
use Rattle.pgs_color.specs.Bytes.{half, byte_of, rgb_of}
use Rattle.pgs_color_accuracy.specs.Exact.{decimals, exact_luma, exact_chroma}
use Rattle.pgs_color_accuracy.specs.Accuracy.{clamped, Within, tolerance, Accurate}
use Rattle.pgs_color.proofs.Clamping.{zero_test, top-test, zero-test-neg}
use Rattle.pgs_color_accuracy.proofs.Difference as Difference
use Rattle.pgs_color_accuracy.proofs.Grid.{At, own-place, add_at, sub_at}
use Rattle.pgs_color_accuracy.proofs.Terms.{scale, Term, luma-term, red-cr, green-cb, green-cr, blue-cb}

-- ---- the byte of a float at a place

-- a place, clamped to 0..255
abbrev clamped_place : ℕ → ℕ
clamped_place n = max (2 ^ 40) (min n (2 ^ 40 + 255 * 2 ^ 26))

-- the byte b is within 1/2 and a rounding of the clamped place
record ByteAt (n b : ℕ) : Type 0 where
  not_above : b * 2 ^ 26 + 2 ^ 40 ≤ clamped_place n + 2 ^ 25 + 2 ^ 12
  not_below : clamped_place n ≤ b * 2 ^ 26 + 2 ^ 40 + 2 ^ 25 + 2 ^ 12

half_at : At half (2 ^ 40 + 2 ^ 25)
unfolding round
half_at = record { sign = false; amount = 2 ^ 25; value = (refl, refl); place = refl }

-- the whole part of a float at a place from 0 to below 256
part_at : (x : Float) (n : ℕ) → At x n → 2 ^ 40 < n → n < 2 ^ 40 + 256 * 2 ^ 26 → to_unsigned 8 x ≡ (n - 2 ^ 40) / 2 ^ 26
unfolding to_unsigned
part_at nan n p low high = absurd p.value
part_at (inf s) n p low high = absurd p.value
part_at (fin true m e) n p low high = let own = own-place true m e n p in let no : n < n = omega arith in absurd (lt_irrefl n no)
part_at (fin false m e) n p low high =
    let own = own-place false m e n p in
    let q : m * up e / down e ≡ p.amount / 2 ^ 26 = div_same (m * up e) (down e) p.amount (2 ^ 26) (down_pos e) (lit< tt) p.value.1 in
    omega arith

module _ (m : ℕ) (e : ℤ) (a : ℕ) (value : m * up e * 2 ^ 26 ≡ a * down e) where
  amount-zero : m * up e ≤ 0 → a ≤ 0
  amount-zero h = le_of_mul-le-mul_right {k = down e} (omega (arith, value, zero-mul (down e))) (down_pos e)

  amount-top : 255 * down e ≤ m * up e → 255 * 2 ^ 26 ≤ a
  amount-top h = le_of_mul-le-mul_right {k = down e} (omega (arith, value, mul_assoc 255 (2 ^ 26) (down e))) (down_pos e)

  amount-below : m * up e < 255 * down e → a < 255 * 2 ^ 26
  amount-below h = lt_of_mul-lt-mul_right (down e) (omega (arith, value))

-- 1/2 was added, with one rounding, and the fraction dropped
middle-near : (n a r b : ℕ) → 2 ^ 40 + a ≡ n → a < 255 * 2 ^ 26 → r + 2 ^ 40 ≤ n + (2 ^ 40 + 2 ^ 25) + 2 ^ 12
    → n + (2 ^ 40 + 2 ^ 25) ≤ r + 2 ^ 40 + 2 ^ 12 → b ≡ (r - 2 ^ 40) / 2 ^ 26 → ByteAt n b
middle-near n a r b own below up_to_lem from part = record { not_above = omega arith; not_below = omega arith }

byte-of-fin : (m : ℕ) (e : ℤ) (n : ℕ) → At (fin false m e) n → ByteAt n (byte_of (fin false m e))
byte-of-fin m e n p =
    subst (λ (b : ℕ). ByteAt n b) (sym is) (go (leb (m * up e) 0) (leb (255 * down e) (m * up e)) (leb-true _ _) (leb-true _ _) (leb-false _ _))
  where
    own : 2 ^ 40 + p.amount ≡ n
    own = own-place false m e n p

    x : Float
    x = add binary32 (fin false m e) half

    is : byte_of (fin false m e) ≡ pick (leb (m * up e) 0) 0 (pick (leb (255 * down e) (m * up e)) 255 (to_unsigned 8 x))
    is = simp (zero_test m e, top-test m e)

    middle : m * up e < 255 * down e → ByteAt n (to_unsigned 8 x)
    middle h =
        let below : p.amount < 255 * 2 ^ 26 = amount-below m e p.amount p.value.1 h in
        let l = add_at (fin false m e) half n (2 ^ 40 + 2 ^ 25) p half_at (omega (arith, own)) (omega (arith, own)) in
        let part = part_at x l.place l.at (omega (arith, own, l.not_below)) (omega (arith, own, l.not_above)) in
        middle-near n p.amount l.place (to_unsigned 8 x) own below l.not_above l.not_below part

    go : (z t : Bool) → (z ≡ true → m * up e ≤ 0) → (t ≡ true → 255 * down e ≤ m * up e) → (t ≡ false → m * up e < 255 * down e)
        → ByteAt n (pick z 0 (pick t 255 (to_unsigned 8 x)))
    go true t z-true t_true t-false =
        let none : p.amount ≤ 0 = amount-zero m e p.amount p.value.1 (z-true refl) in
        record { not_above = omega (arith, own); not_below = omega (arith, own) }
    go false true z-true t_true t-false =
        let over : 255 * 2 ^ 26 ≤ p.amount = amount-top m e p.amount p.value.1 (t_true refl) in
        record { not_above = omega (arith, own); not_below = omega (arith, own) }
    go false false z-true t_true t-false = middle (t-false refl)

byte_at : (v : Float) (n : ℕ) → At v n → ByteAt n (byte_of v)
byte_at nan n p = absurd p.value
byte_at (inf s) n p = absurd p.value
byte_at (fin true m e) n p =
    let own = own-place true m e n p in
    let is : byte_of (fin true m e) ≡ 0 = simp (zero-test-neg m e) in
    subst (λ (b : ℕ). ByteAt n b) (sym is) (record { not_above = omega arith; not_below = omega arith })
byte_at (fin false m e) n p = byte-of-fin m e n p

-- ---- a channel: a float near an exact value (p - q) / scale. It has at most three terms, each off by at most 2,300 units of 2^-26, and two
-- roundings, each off by at most 2^12 of them: 15,092 together.

record Channel (v : Float) (p q : ℕ) : Type 0 where
  place : ℕ
  at : At v place
  not_above : place * scale + q * 2 ^ 26 ≤ p * 2 ^ 26 + 2 ^ 40 * scale + 15100 * scale
  not_below : p * 2 ^ 26 + 2 ^ 40 * scale ≤ place * scale + q * 2 ^ 26 + 15100 * scale

-- over plain numbers
near-exact : (n b p q c : ℕ) → ByteAt n b → n * scale + q * 2 ^ 26 ≤ p * 2 ^ 26 + 2 ^ 40 * scale + 15100 * scale
    → p * 2 ^ 26 + 2 ^ 40 * scale ≤ n * scale + q * 2 ^ 26 + 15100 * scale → c ≡ min (p - q) (255 * scale)
    → (b * scale * 1000 ≤ c * 1000 + tolerance * scale) × (c * 1000 ≤ b * scale * 1000 + tolerance * scale)
near-exact n b p q c byte above below is = (omega arith, omega arith)

within : {v : Float} {p q : ℕ} {z : ℤ} → Channel v p q → Difference.Is z p q → Within tolerance 1000 scale (byte_of v) z
within {v} {p} {q} {z} c d =
    let both =
    near-exact c.place (byte_of v) p q (clamped scale z) (byte_at v c.place c.at) c.not_above c.not_below (Difference.clamped-is scale d) in
    record { not_above = both.0; not_below = both.1 }

plus-channel : {x y : Float} {p q r s : ℕ} → Term x p q → Term y r s → Channel (add binary32 x y) (p + r) (q + s)
plus-channel {x} {y} t u =
    let l = add_at x y t.place u.place t.at u.at (omega arith) (omega arith) in
    record { place = l.place; at = l.at; not_above = omega arith; not_below = omega arith }

minus-channel : {x y w : Float} {p q r s g h : ℕ} → Term x p q → Term y r s → Term w g h
    → Channel (sub binary32 (sub binary32 x y) w) (p + s + h) (q + r + g)
minus-channel {x} {y} {w} t u v =
    let l = sub_at x y t.place u.place t.at u.at (omega arith) (omega arith) (omega arith) in
    let k = sub_at (sub binary32 x y) w l.place v.place l.at v.at (omega arith) (omega arith) (omega arith) in
    record { place = k.place; at = k.at; not_above = omega arith; not_below = omega arith }

-- ---- the exact values as differences

luma-is : (y : ℕ) → Difference.Is (exact_luma decimals y) (255 * 224 * decimals.over * y) (255 * 224 * decimals.over * 16)
luma-is y = Difference.scaled (255 * 224 * decimals.over) (Difference.of-sub y 16)

chroma-is : (k c : ℕ) → Difference.Is (exact_chroma k c) (255 * 219 * k * c) (255 * 219 * k * 128)
chroma-is k c = Difference.scaled (255 * 219 * k) (Difference.of-sub c 128)

-- ---- the rule

pub accurate : Accurate rgb_of
accurate y cb cr hy hb hr =
    record {
      red = within (plus-channel (luma-term y hy) (red-cr cr hr)) (Difference.plus (luma-is y) (chroma-is decimals.red_cr cr));
      green =
          within (minus-channel (luma-term y hy) (green-cb cb hb) (green-cr cr hr))
          (Difference.minus (Difference.minus (luma-is y) (chroma-is decimals.green_cb cb)) (chroma-is decimals.green_cr cr));
      blue = within (plus-channel (luma-term y hy) (blue-cb cb hb)) (Difference.plus (luma-is y) (chroma-is decimals.blue_cb cb));
    }
