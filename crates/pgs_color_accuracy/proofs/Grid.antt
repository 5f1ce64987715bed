-- Floats on a grid: a binary32 that is a whole number of 2^-26ths, with what one rounding can be off by below 2^10.
-- A place is that number moved up by 2^40, so that it is a natural number for either sign. (In units of binary32's smallest value, 2^-149,
-- the numbers would be too long for `omega`.)
-- Assumes nothing.
use mathlib.Core.Path.{◌≡◌, refl, sym, ap, ◌∙◌, subst}
use mathlib.Core.Bool.{Bool, true, false, not, ◌&&◌, beq, cond}
use Prim.Native.Nat.{ℕ, suc, ◌+◌, ◌-◌, ◌*◌, ◌/◌, ◌%◌, ◌^◌, ◌≤◌, ◌<◌, compare}
use native.Mathlib.Nat.{suc-mul, mul-sub, eq_of_mul-eq-mul_right, mul_comm, mul_assoc, mul_right_comm, add-mul, mul-pos}
use native.Mathlib.Nat.{lt_of_lt_of_le, lt_of_not-le, not-le_of_lt, mul-le-mul_right, mul-lt-mul_of_pos_right}
use native.Mathlib.Nat.{lt_of_mul-lt-mul_right, le_of_mul-le-mul_right, div-add-mod', mod-lt, mul-div_cancel}
use native.Mathlib.Omega.{arith}
use borrow.Author.Tests.{ltb-true, ltb-false, lt-ltb, le-ltb}
use lib.Dec.{T, ltb, lit<, lit≤, ltb→lt, nltb→le}
use lib.IntN.{ℤ}
use lib.Pow.{pow-add, pow_pos, pow_mono, shl_lt}
use lib.Ieee.{Float, nan, inf, fin, Format, binary32, low, emax, up, down, size, units, round, sum, add, sub, neg}
use lib.Ieee.Digits.{size-lt, size-le}
use lib.Ieee.Fits.{down_pos, nearest-le, round_is}
use lib.Ieee.Exact.{HasValue, units_val, round_exact}
use lib.Ieee.Nearest.{closest, closest_same, nearest-ge}
use lib.Ieee.Scale.{round_same}

-- ---- one rounding

-- a / 2^26 rounded with the sign s is q / 2^26
pub record Rounded (s : Bool) (a : ℕ) : Type 0 where
  pub q : ℕ
  pub value : HasValue (round binary32 s a (2 ^ 26)) s q (2 ^ 26)
  pub not_above : q ≤ a + 2 ^ 12
  pub not_below : a ≤ q + 2 ^ 12

-- a in units of binary32's smallest value
in-units : (a : ℕ) → a * 2 ^ 149 ≡ a * 2 ^ 123 * 2 ^ 26
in-units a = sym (mul_assoc a (2 ^ 123) (2 ^ 26))

-- with at most 24 digits nothing is lost
few : (s : Bool) (a : ℕ) → a < 2 ^ 24 → Rounded s a
few s a h =
    record {
      q = a;
      value =
          round_exact binary32 s a (2 ^ 26) a 123 (lit< tt) h (lt_of_lt_of_le (mul-lt-mul_of_pos_right h (pow_pos 123)) (lit≤ tt)) (in-units a);
      not_above = omega arith;
      not_below = omega arith;
    }

-- a whole number of ps, near a
closest-near : (a p : ℕ) → 0 < p → (closest a p * p ≤ a + p) × (a ≤ closest a p * p + p)
closest-near a p h =
    let c : ℕ = closest a p in
    let up_to : c * p ≤ suc (a / p) * p = mul-le-mul_right p (nearest-le (a / p) (compare (a % p * 2) p)) in
    let from : a / p * p ≤ c * p = mul-le-mul_right p (nearest-ge (a / p) (compare (a % p * 2) p)) in
    let s : suc (a / p) * p ≡ a / p * p + p = suc-mul (a / p) p in
    let r : a % p < p = mod-lt a h in
    let d : a / p * p + a % p ≡ a = div-add-mod' a p in
    (omega arith, omega arith)

-- from one fraction to another of the same size
rescale : (x : Float) (s : Bool) (w l num den : ℕ) → 0 < l → num * l ≡ w * den → HasValue x s w l → HasValue x s num den
rescale nan s w l num den p h v = v
rescale (inf t) s w l num den p h v = v
rescale (fin t m e) s w l num den p h v = (
  v.0,
  eq_of_mul-eq-mul_right l p (m * up e * den) (num * down e)
      (mul_right_comm (m * up e) den l
      ∙ ap (λ (x : ℕ). x * den) v.1
      ∙ mul_right_comm w (down e) den
      ∙ ap (λ (x : ℕ). x * down e) (sym h)
      ∙ mul_right_comm num l (down e)),
)

-- with j digits more, the last j are dropped
dropped : (s : Bool) (a j : ℕ) → a < 2 ^ 36 → j ≤ 12 → size (a * 2 ^ 149 / 2 ^ 26) - 24 ≡ 123 + j → Rounded s a
dropped s a j h j-le k =
    record {
      q = c * p;
      value =
          subst (λ (x : Float). HasValue x s (c * p) (2 ^ 26)) (sym is)
          (rescale (units binary32 s c (123 + j)) s (c * 2 ^ (123 + j)) (2 ^ 149) (c * p) (2 ^ 26) (pow_pos 149) same (units_val binary32 s c (123 + j) fits));
      not_above = omega (arith, closest-near a p (pow_pos j), p-le);
      not_below = omega (arith, closest-near a p (pow_pos j), p-le);
    }
  where
    p : ℕ
    p = 2 ^ j

    c : ℕ
    c = closest a (2 ^ j)

    p-le : 2 ^ j ≤ 2 ^ 12
    p-le = pow_mono j-le

    room : c * p < 2 ^ 37
    room = omega (arith, closest-near a p (pow_pos j), p-le)

    unit : 2 ^ 26 * 2 ^ (123 + j) ≡ 2 ^ 149 * 2 ^ j
    unit = ap (λ (x : ℕ). 2 ^ 26 * x) (pow-add 2 123 j) ∙ sym (mul_assoc (2 ^ 26) (2 ^ 123) (2 ^ j))

    is : round binary32 s a (2 ^ 26) ≡ units binary32 s c (123 + j)
    is =
        round_is binary32 s a (2 ^ 26)
        ∙ ap (λ (z : ℕ). units binary32 s (closest (a * 2 ^ 149) (2 ^ 26 * 2 ^ z)) z) k
        ∙ ap (λ (z : ℕ). units binary32 s z (123 + j))
        (ap (λ (z : ℕ). closest (a * 2 ^ 149) z) unit
        ∙ closest_same (a * 2 ^ 149) (2 ^ 149 * 2 ^ j) a (2 ^ j) (mul-pos (pow_pos 149) (pow_pos j)) (pow_pos j) (mul_assoc a (2 ^ 149) (2 ^ j)))

    same : c * p * 2 ^ 149 ≡ c * 2 ^ (123 + j) * 2 ^ 26
    same =
        mul_assoc c p (2 ^ 149)
        ∙ ap (λ (x : ℕ). c * x) (mul_comm p (2 ^ 149) ∙ sym unit ∙ mul_comm (2 ^ 26) (2 ^ (123 + j)))
        ∙ sym (mul_assoc c (2 ^ (123 + j)) (2 ^ 26))

    fits : c * 2 ^ (123 + j) < 2 ^ (low binary32 + suc (emax binary32))
    fits =
        subst (λ (x : ℕ). x < 2 ^ 277) (mul_assoc c p (2 ^ 123) ∙ ap (λ (x : ℕ). c * x) (mul_comm p (2 ^ 123) ∙ sym (pow-add 2 123 j)))
        (lt_of_lt_of_le (mul-lt-mul_of_pos_right room (pow_pos 123)) (lit≤ tt))

-- below 2^10, of either sign
pub rounded : (s : Bool) (a : ℕ) → a < 2 ^ 36 → Rounded s a
rounded s a h = go (ltb a (2 ^ 24)) (ltb→lt a (2 ^ 24)) (nltb→le a (2 ^ 24))
  where
    w : ℕ
    w = a * 2 ^ 149 / 2 ^ 26

    w-is : w ≡ a * 2 ^ 123
    w-is = ap (λ (x : ℕ). x / 2 ^ 26) (in-units a) ∙ mul-div_cancel (a * 2 ^ 123) (pow_pos 26)

    most : size w ≤ 159
    most = size-le w 159 (rw w-is (shl_lt 36 123 h))

    least : 2 ^ 24 ≤ a → 147 < size w
    least g =
        lt_of_not-le
        (λ (l : size w ≤ 147). not-le_of_lt (lt_of_lt_of_le (size-lt w) (pow_mono l)) (rw w-is (mul-le-mul_right (2 ^ 123) g)))

    go : (t : Bool) → (T t → a < 2 ^ 24) → (T (not t) → 2 ^ 24 ≤ a) → Rounded s a
    go true l g = few s a (l tt)
    go false l g = dropped s a (size w - 147) h (omega (arith, most)) (omega (arith, most, least (g tt)))

-- ---- places

-- the place n of a number of 2^-26ths with a sign
abbrev pub Place : Bool → ℕ → ℕ → Type 0
Place false a n = 2 ^ 40 + a ≡ n
Place true a n = n + a ≡ 2 ^ 40

pub record At (x : Float) (n : ℕ) : Type 0 where
  pub sign : Bool
  pub amount : ℕ
  pub value : HasValue x sign amount (2 ^ 26)
  pub place : Place sign amount n

-- x is at a place that one rounding put near total - 2^40
pub record Landed (x : Float) (total : ℕ) : Type 0 where
  pub place : ℕ
  pub at : At x place
  pub not_above : place + 2 ^ 40 ≤ total + 2 ^ 12
  pub not_below : total ≤ place + 2 ^ 40 + 2 ^ 12

landed : (s : Bool) (a n total : ℕ) → a < 2 ^ 36 → Place s a n → n + 2 ^ 40 ≡ total → Landed (round binary32 s a (2 ^ 26)) total
landed false a n total h p e =
    let r = rounded false a h in
    record {
      place = 2 ^ 40 + r.q;
      at = record { sign = false; amount = r.q; value = r.value; place = refl };
      not_above = omega (arith, r.not_above);
      not_below = omega (arith, r.not_below);
    }
landed true a n total h p e =
    let r = rounded true a h in
    record {
      place = 2 ^ 40 - r.q;
      at = record { sign = true; amount = r.q; value = r.value; place = omega (arith, r.not_above) };
      not_above = omega (arith, r.not_above);
      not_below = omega (arith, r.not_below);
    }

-- ---- a sum sees only the values of its fractions

module _ (A B C a b u : ℕ) (C-pos : 0 < C) (u-pos : 0 < u) (ha : A * u ≡ a * C) (hb : B * u ≡ b * C) where
  same-plus : (A + B) * u ≡ (a + b) * C
  same-plus = add-mul A B u ∙ omega (arith, ha, hb) ∙ sym (add-mul a b C)

  same-minus : (A - B) * u ≡ (a - b) * C
  same-minus =
      mul_comm (A - B) u
      ∙ mul-sub u A B
      ∙ omega (arith, mul_comm u A, mul_comm u B, mul_comm C a, mul_comm C b)
      ∙ sym (mul-sub C a b)
      ∙ mul_comm C (a - b)

  same-less : ltb A B ≡ ltb a b
  same-less = go (ltb a b) refl
    where
      go : (t : Bool) → ltb a b ≡ t → ltb A B ≡ t
      go true e =
          let h : a * C < b * C = mul-lt-mul_of_pos_right (ltb-true a b e) C-pos in
          lt-ltb A B (lt_of_mul-lt-mul_right u (omega arith))
      go false e =
          let h : b * C ≤ a * C = mul-le-mul_right C (ltb-false a b e) in
          le-ltb A B (le_of_mul-le-mul_right (omega arith) u-pos)

sum_same : (f : Format) (s t : Bool) (A B C a b u : ℕ) → 0 < C → 0 < u → A * u ≡ a * C → B * u ≡ b * C → sum f s A t B C ≡ sum f s a t b u
unfolding sum
sum_same f s t A B C a b u C-pos u-pos ha hb =
    λ i. cond (beq s t) (plus i) (cond (less i) (under i) (over i))
  where
    less : ltb A B ≡ ltb a b
    less = same-less A B C a b u C-pos u-pos ha hb

    plus : round f s (A + B) C ≡ round f s (a + b) u
    plus = round_same f s (A + B) C (a + b) u C-pos u-pos (same-plus A B C a b u C-pos u-pos ha hb)

    under : round f t (B - A) C ≡ round f t (b - a) u
    under = round_same f t (B - A) C (b - a) u C-pos u-pos (same-minus B A C b a u C-pos u-pos hb ha)

    over : round f (s && ltb B A) (A - B) C ≡ round f (s && ltb b a) (a - b) u
    over =
        ap (λ (z : Bool). round f (s && z) (A - B) C) (same-less B A C b a u C-pos u-pos hb ha)
        ∙ round_same f (s && ltb b a) (A - B) C (a - b) u C-pos u-pos (same-minus A B C a b u C-pos u-pos ha hb)

-- ---- the sum of two numbers of 2^-26ths

sum-at : (s t : Bool) (a b n k : ℕ) → Place s a n → Place t b k → n + k < 2 ^ 41 + 2 ^ 36 → 2 ^ 41 < n + k + 2 ^ 36 → Landed (sum binary32 s a t b (2 ^ 26)) (n + k)
unfolding sum
sum-at false false a b n k p q top bot = landed false (a + b) (n + k - 2 ^ 40) (n + k) (omega arith) (omega arith) (omega arith)
sum-at true true a b n k p q top bot = landed true (a + b) (n + k - 2 ^ 40) (n + k) (omega arith) (omega arith) (omega arith)
sum-at false true a b n k p q top bot = go (ltb a b) (ltb→lt a b) (nltb→le a b)
  where
    go : (l : Bool) → (T l → a < b) → (T (not l) → b ≤ a)
        → Landed (cond l (round binary32 true (b - a) (2 ^ 26)) (round binary32 false (a - b) (2 ^ 26))) (n + k)
    go true l g =
        let h : a < b = l tt in
        landed true (b - a) (n + k - 2 ^ 40) (n + k) (omega arith) (omega arith) (omega arith)
    go false l g =
        let h : b ≤ a = g tt in
        landed false (a - b) (n + k - 2 ^ 40) (n + k) (omega arith) (omega arith) (omega arith)
sum-at true false a b n k p q top bot = go (ltb a b) (ltb b a) (ltb→lt a b) (nltb→le a b) (nltb→le b a)
  where
    go : (l r : Bool) → (T l → a < b) → (T (not l) → b ≤ a) → (T (not r) → a ≤ b)
        → Landed (cond l (round binary32 false (b - a) (2 ^ 26)) (round binary32 r (a - b) (2 ^ 26))) (n + k)
    go true r l g m =
        let h : a < b = l tt in
        landed false (b - a) (n + k - 2 ^ 40) (n + k) (omega arith) (omega arith) (omega arith)
    go false true l g m =
        let h : b ≤ a = g tt in
        landed true (a - b) (n + k - 2 ^ 40) (n + k) (omega arith) (omega arith) (omega arith)
    go false false l g m =
        let h : b ≤ a = g tt in
        let h' : a ≤ b = m tt in
        landed false (a - b) (n + k - 2 ^ 40) (n + k) (omega arith) (omega arith) (omega arith)

-- two fractions over the same denominator
cross : (m u e d a : ℕ) → m * u ≡ a * e → m * d * u ≡ a * (e * d)
cross m u e d a h = mul_right_comm m d u ∙ ap (λ (x : ℕ). x * d) h ∙ mul_assoc a e d

pub own-place : (s : Bool) (m : ℕ) (e : ℤ) (n : ℕ) (p : At (fin s m e) n) → Place s p.amount n
own-place s m e n p = subst (λ (z : Bool). Place z p.amount n) (sym p.value.0) p.place

pub add_at : (x y : Float) (n k : ℕ) → At x n → At y k → n + k < 2 ^ 41 + 2 ^ 36 → 2 ^ 41 < n + k + 2 ^ 36 → Landed (add binary32 x y) (n + k)
unfolding add
add_at nan y n k p q top bot = absurd p.value
add_at (inf s) y n k p q top bot = absurd p.value
add_at (fin s m e) nan n k p q top bot = absurd q.value
add_at (fin s m e) (inf t) n k p q top bot = absurd q.value
add_at (fin s m e) (fin t l d) n k p q top bot =
    subst (λ (x : Float). Landed x (n + k)) (sym is) (sum-at s t p.amount q.amount n k (own-place s m e n p) (own-place t l d k q) top bot)
  where
    is : sum binary32 s (m * up e * down d) t (l * up d * down e) (down e * down d) ≡ sum binary32 s p.amount t q.amount (2 ^ 26)
    is =
        sum_same binary32 s t (m * up e * down d) (l * up d * down e) (down e * down d) p.amount q.amount (2 ^ 26)
        (mul-pos (down_pos e) (down_pos d)) (lit< tt) (cross (m * up e) (2 ^ 26) (down e) (down d) p.amount p.value.1)
        (cross (l * up d) (2 ^ 26) (down d) (down e) q.amount q.value.1 ∙ ap (λ (x : ℕ). q.amount * x) (mul_comm (down d) (down e)))

opposite : (s : Bool) (a n : ℕ) → n ≤ 2 ^ 41 → Place s a n → Place (not s) a (2 ^ 41 - n)
opposite false a n h p = omega arith
opposite true a n h p = omega arith

neg-at : (x : Float) (n : ℕ) → At x n → n ≤ 2 ^ 41 → At (neg x) (2 ^ 41 - n)
unfolding neg
neg-at nan n p h = absurd p.value
neg-at (inf s) n p h = absurd p.value
neg-at (fin s m e) n p h =
    record { sign = not p.sign; amount = p.amount; value = (ap not p.value.0, p.value.1); place = opposite p.sign p.amount n h p.place }

pub sub_at : (x y : Float) (n k : ℕ) → At x n → At y k → k ≤ 2 ^ 41 → n < k + 2 ^ 36 → k < n + 2 ^ 36 → Landed (sub binary32 x y) (n + (2 ^ 41 - k))
unfolding sub
sub_at x y n k p q h top bot = add_at x (neg y) n (2 ^ 41 - k) p (neg-at y k q h) (omega arith) (omega arith)
