-- Numbers written in bytes and read back, over the width. Assumes nothing.
use mathlib.Core.Path.{◌≡◌, refl, sym, ap, ◌∙◌}
use mathlib.Core.Bool.{Bool, true, false}
use mathlib.Core.List.{List, [], ◌∷◌, ◌++◌, append_assoc, append-nil}
use Prim.Native.Nat.{ℕ, zero, suc, ◌+◌, ◌*◌, ◌/◌, ◌%◌, ◌^◌, ◌≤◌, ◌<◌}
use native.Mathlib.Nat.{lt_of_lt_of_le, pow-suc, pow-le-pow_right, mul-le-mul_right, div-lt_iff_lt-mul}
use native.Mathlib.Numerals.{add-one}
use native.Mathlib.Omega.{arith}
use borrow.Author.Tests.{ltb-true, ltb-false}
use lib.Bits.{bit_or}
use lib.Dec.{ltb}
use lib.ListN.{length, take, drop, get_or, length-append, length-take, length-drop, get_or-eq_default}
use lib.Seq.{take-suc, take_all, drop_at, take_at, get_or-take, get_or-drop, length-take-le}
use Rattle.std.specs.List.{fold}
use Rattle.std.proofs.lemmas.Nat.{or_shifted}
use Rattle.pgs_base.specs.Bytes.{big, num, bytes_of, Bytes}

pub length-bytes : (w n : ℕ) → length (bytes_of w n) ≡ w
length-bytes zero n = refl
length-bytes (suc w) n = rw (length-append, length-bytes w (n / 256)) (omega arith)

-- one byte more at the end
pub big-snoc : (xs : List ℕ) (b : ℕ) → big (xs ++ (b ∷ [])) ≡ big xs * 256 + b
big-snoc [] b = omega arith
big-snoc (x ∷ xs) b =
    let e : 256 ^ length (xs ++ (b ∷ [])) ≡ 256 ^ length xs * 256
    = ap (λ (k : ℕ). 256 ^ k) (length-append xs (b ∷ []) ∙ add-one (length xs)) ∙ pow-suc 256 (length xs) in
    rw (e, big-snoc xs b) (omega arith)

-- what is written is read back
pub big-bytes : (w n : ℕ) → n < 256 ^ w → big (bytes_of w n) ≡ n
big-bytes zero n h = omega arith
big-bytes (suc w) n h =
    rw (big-snoc, big-bytes w (n / 256) ((div-lt_iff_lt-mul {k = 256} (omega arith)).1 (rw (← pow-suc 256 w) h))) (omega arith)

-- a list of bytes stays one in its parts
pub bytes_take : (n : ℕ) (l : List ℕ) → Bytes l → Bytes (take n l)
bytes_take n l h i = go (ltb i n) refl
  where
    go : (t : Bool) → ltb i n ≡ t → get_or (take n l) i 0 < 256
    go true e = rw (get_or-take n l i 0 (ltb-true i n e)) (h i)
    go false e = rw (get_or-eq_default (take n l) 0 {n = i} (rw length-take (omega (arith, ltb-false i n e)))) (omega arith)

pub bytes_drop : (n : ℕ) (l : List ℕ) → Bytes l → Bytes (drop n l)
bytes_drop n l h i = rw get_or-drop (h (n + i))

-- what is read is written back
pub bytes-big : (w : ℕ) (l : List ℕ) → Bytes l → length l ≡ w → bytes_of w (big l) ≡ l
bytes-big zero [] h e = refl
bytes-big zero (x ∷ l) h e = absurd (omega arith)
bytes-big (suc w) l h e =
    let split : l ≡ take w l ++ (get_or l w 0 ∷ []) = sym (take_all (suc w) l (omega arith)) ∙ take-suc l w 0 (omega arith) in
    let value : big l ≡ big (take w l) * 256 + get_or l w 0 = ap big split ∙ big-snoc (take w l) (get_or l w 0) in
    let low : big l % 256 ≡ get_or l w 0 = rw value (omega (arith, h w)) in
    let high : big l / 256 ≡ big (take w l) = rw value (omega (arith, h w)) in
    rw (low, high, bytes-big w (take w l) (bytes_take w l h) (length-take-le w l (omega arith))) (sym split)

-- a number among other bytes, written and read
pub num-bytes : (w n : ℕ) (p r : List ℕ) {at : ℕ} → length p ≡ at → n < 256 ^ w → num w at (p ++ (bytes_of w n ++ r)) ≡ n
unfolding num
num-bytes w n p r {at} e h =
    rw (drop_at p (bytes_of w n ++ r) at e, take_at (bytes_of w n) r w (length-bytes w n)) (big-bytes w n h)

pub bytes-num : (w at : ℕ) (l : List ℕ) → Bytes l → at + w ≤ length l → bytes_of w (num w at l) ≡ take w (drop at l)
unfolding num
bytes-num w at l h q =
    bytes-big w (take w (drop at l)) (bytes_take w (drop at l) (bytes_drop at l h)) (length-take-le w (drop at l) (rw length-drop (omega arith)))

-- a byte joins the 32 bits of a number that it follows
abbrev pub shifted : ℕ → ℕ → ℕ
shifted n b = bit_or (n * 2 ^ 8 % 2 ^ 32) b

shifted-big : (xs : List ℕ) (b : ℕ) → b < 256 → shifted (big xs % 2 ^ 32) b ≡ big (xs ++ (b ∷ [])) % 2 ^ 32
shifted-big xs b h =
    let high : big xs % 2 ^ 32 * 2 ^ 8 % 2 ^ 32 ≡ big xs % 2 ^ 24 * 2 ^ 8 = omega arith in
    rw (high, or_shifted (big xs % 2 ^ 24) 8 b h, big-snoc xs b) (omega arith)

-- and so do all of them, one after another
pub fold-shifted : (xs ys : List ℕ) → Bytes ys → fold shifted (big xs % 2 ^ 32) ys ≡ big (xs ++ ys) % 2 ^ 32
fold-shifted xs [] h = ap (λ (l : List ℕ). big l % 2 ^ 32) (sym (append-nil xs))
fold-shifted xs (b ∷ bs) h =
    ap (λ (n : ℕ). fold shifted n bs) (shifted-big xs b (h 0))
    ∙ (fold-shifted (xs ++ (b ∷ [])) bs (λ i. h (suc i))
    ∙ ap (λ (l : List ℕ). big l % 2 ^ 32) (append_assoc xs (b ∷ []) bs))

-- a number of w bytes, or of fewer, is below 256 ^ w
big-fits : (l : List ℕ) → Bytes l → big l < 256 ^ length l
big-fits [] h = omega arith
big-fits (b ∷ bs) h =
    let e : 256 ^ suc (length bs) ≡ 256 ^ length bs * 256 = pow-suc 256 (length bs) in
    let p : (b + 1) * 256 ^ length bs ≤ 256 * 256 ^ length bs = mul-le-mul_right (256 ^ length bs) (omega (arith, h 0)) in
    rw e (omega (arith, big-fits bs (λ i. h (suc i)), p))

num-fits : (w at : ℕ) (l : List ℕ) → Bytes l → num w at l < 256 ^ w
unfolding num
num-fits w at l h =
    let field : List ℕ = take w (drop at l) in
    let short : length field ≤ w = rw length-take (omega arith) in
    lt_of_lt_of_le (big-fits field (bytes_take w (drop at l) (bytes_drop at l h))) (pow-le-pow_right (omega arith) short)

-- and of at most four bytes, one of 32 bits
pub num-whole : (w at : ℕ) (l : List ℕ) → Bytes l → {n : ℕ} → n ≡ num w at l % 2 ^ 32 → w ≤ 4 → (n ≡ num w at l) × (n < 256 ^ w)
num-whole w at l h e q =
    let fits : num w at l < 256 ^ w = num-fits w at l h in
    let most : 256 ^ w ≤ 256 ^ 4 = pow-le-pow_right (omega arith) q in
    (omega (arith, e, fits, most), omega (arith, e, fits, most))
