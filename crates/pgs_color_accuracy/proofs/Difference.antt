-- An integer as the difference of two natural numbers, through sums, negation and multiples: so that `omega`, which reads natural numbers,
-- can work with exact values.
-- Assumes nothing.
use mathlib.Core.Path.{◌≡◌, sym, ap, ◌∙◌, subst}
use mathlib.Core.Bool.{Bool, true, false, not, cond}
use Prim.Native.Nat.{ℕ, zero, suc, ◌+◌, ◌-◌, ◌*◌, ◌≤◌, ◌<◌, min}
use native.Mathlib.Nat.{mul-add}
use native.Mathlib.Omega.{arith}
use lib.Dec.{T, ltb, ltb→lt, nltb→le}
use lib.IntN.{ℤ, pos, negsuc, neg_ℤ, sub_ℕ, ◌+ℤ◌, ◌-ℤ◌, ◌*ℤ◌, pos-*ℤ-negsuc}
use Rattle.pgs_color_accuracy.specs.Accuracy.{clamped}

-- z + b is a
abbrev Sums : ℤ → ℕ → ℕ → Type 0
Sums (pos n) a b = n + b ≡ a
Sums (negsuc n) a b = a + suc n ≡ b

-- z is a - b
pub record Is (z : ℤ) (a b : ℕ) : Type 0 where
  sums : Sums z a b

sub_sums : (a b : ℕ) → Sums (sub_ℕ a b) a b
sub_sums a b = go (ltb a b) (ltb→lt a b) (nltb→le a b)
  where
    go : (t : Bool) → (T t → a < b) → (T (not t) → b ≤ a) → Sums (cond t (negsuc (b - suc a)) (pos (a - b))) a b
    go true l g = let h : a < b = l tt in omega arith
    go false l g = let h : b ≤ a = g tt in omega arith

-- the same difference of two other numbers
shift : (z : ℤ) (a b c d : ℕ) → Sums z a b → a + d ≡ c + b → Sums z c d
shift (pos n) a b c d h e = omega arith
shift (negsuc n) a b c d h e = omega arith

plus-sums : (z w : ℤ) (a b c d : ℕ) → Sums z a b → Sums w c d → Sums (z +ℤ w) (a + c) (b + d)
plus-sums (pos m) (pos n) a b c d h k = omega arith
plus-sums (pos m) (negsuc n) a b c d h k = shift (sub_ℕ m (suc n)) m (suc n) (a + c) (b + d) (sub_sums m (suc n)) (omega arith)
plus-sums (negsuc m) (pos n) a b c d h k = shift (sub_ℕ n (suc m)) n (suc m) (a + c) (b + d) (sub_sums n (suc m)) (omega arith)
plus-sums (negsuc m) (negsuc n) a b c d h k = omega arith

neg-sums : (z : ℤ) (a b : ℕ) → Sums z a b → Sums (neg_ℤ z) b a
neg-sums (pos zero) a b h = omega arith
neg-sums (pos (suc n)) a b h = omega arith
neg-sums (negsuc n) a b h = omega arith

scaled-sums : (k : ℕ) (z : ℤ) (a b : ℕ) → Sums z a b → Sums (pos k *ℤ z) (k * a) (k * b)
scaled-sums k (pos n) a b h = sym (mul-add k n b) ∙ ap (λ (x : ℕ). k * x) h
scaled-sums k (negsuc n) a b h =
    let e : suc n + a ≡ b = omega arith in
    subst (λ (z : ℤ). Sums z (k * a) (k * b)) (sym (pos-*ℤ-negsuc k n))
    (neg-sums (pos (k * suc n)) (k * b) (k * a) (sym (mul-add k (suc n) a) ∙ ap (λ (x : ℕ). k * x) e))

clamped-sums : (s : ℕ) (z : ℤ) (a b : ℕ) → Sums z a b → clamped s z ≡ min (a - b) (255 * s)
clamped-sums s (pos n) a b h = omega arith
clamped-sums s (negsuc n) a b h = omega arith

pub of-sub : (a b : ℕ) → Is (sub_ℕ a b) a b
of-sub a b = record { sums = sub_sums a b }

pub plus : {z w : ℤ} {a b c d : ℕ} → Is z a b → Is w c d → Is (z +ℤ w) (a + c) (b + d)
plus {z} {w} {a} {b} {c} {d} h k = record { sums = plus-sums z w a b c d h.sums k.sums }

pub minus : {z w : ℤ} {a b c d : ℕ} → Is z a b → Is w c d → Is (z -ℤ w) (a + d) (b + c)
minus {z} {w} {a} {b} {c} {d} h k = record { sums = plus-sums z (neg_ℤ w) a b d c h.sums (neg-sums w c d k.sums) }

pub scaled : (k : ℕ) {z : ℤ} {a b : ℕ} → Is z a b → Is (pos k *ℤ z) (k * a) (k * b)
scaled k {z} {a} {b} h = record { sums = scaled-sums k z a b h.sums }

pub clamped-is : (s : ℕ) {z : ℤ} {a b : ℕ} → Is z a b → clamped s z ≡ min (a - b) (255 * s)
clamped-is s {z} {a} {b} h = clamped-sums s z a b h.sums
